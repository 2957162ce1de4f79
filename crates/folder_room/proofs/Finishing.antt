-- How a call ends.
use Rattle.std.proofs.lemmas.List.{length-reverse}
use Rattle.std.proofs.Common.{◌≡◌, ◌+◌, length, arith, ◌++◌, ◌∷◌, [], ℕ, true, false, List, Option, Some, None, refl, sym, subst, ap}
use Rattle.std.specs.Prelude.{Result, Ok, Err, IfOk, OnOk, OnErr}
use Rattle.folder_files.specs.Histories.{past_of, world_after}
use Rattle.folder_files.specs.Steps.{Fits, made, made_by, left_by}
use Rattle.folder_files.specs.Worlds.{shown}
use Rattle.folder_files.specs.declared.step.Step.{Step}
use Rattle.folder_files.specs.declared.step.Answer.{Answer}
use Rattle.folder_files.specs.declared.step.Answer.TheVariants.{Failed}
use Rattle.folder_files.specs.declared.event.After.{After}
use Rattle.folder_files.specs.declared.event.After.TheVariants.{Before, Made}
use Rattle.folder_files.specs.declared.event.Event.{Event}
use Rattle.folder_files.specs.declared.event.Event.TheVariants.{Act, Crash}
use Rattle.folder_files.specs.declared.world.World.{World}
use Rattle.folder_room.specs.Crashing.{IsCrashBy}
use Rattle.folder_room.specs.Played.{IsAnswered, is_dead, fails_by, answers, crashes_within, IsHonest, IsAnsweredBy, IsActed, lives, is_over, failing, has_acted_or_is}
use Rattle.folder_room.specs.Seen.{IsNow}
use Rattle.folder_room.specs.declared.course.Course.{Course}
use Rattle.folder_room.specs.declared.script.Happening.{Happening}
use Rattle.folder_room.specs.declared.script.Happening.TheVariants as happening
use Rattle.folder_room.specs.declared.script.Keep.{Keep}
use Rattle.folder_room.proofs.Coursing.{past_more, live_now, dead_now, answered_now, both_same}
use Rattle.folder_room.proofs.Fitting.{fits_answers}

abbrev Ends : World → ℕ → Step → Option After → List Event → List Happening → Answer → List Event → Type 0
Ends start run s fail past left a now = IsAnswered start run s fail past left a now

ends_as : (start : World) (run : ℕ) (s : Step) (fail : Option After) (past : List Event) (left : List Happening) (a : Answer) (now also : List Event) → now ≡ also → Ends start run s fail past left a also → Ends start run s fail past left a now
ends_as start run s fail past left a now also e h = subst (λ es. Ends start run s fail past left a es) (sym e) h

pub dead_ends : (start w : World) (h i : List Event) (run : ℕ) (s : Step) (fail : Option After) → IsNow start w h → (shown w).ended run ≡ true → i ≡ h ++ Act run s Failed Before ∷ [] → Ends start run s fail (past_of h) [] Failed (past_of i)
dead_ends start w h i run s fail n e q = ends_as start run s fail (past_of h) [] Failed (past_of i) (Act run s Failed Before ∷ past_of h) (past_more h i (Act run s Failed Before) q) (is_dead (dead_now start w h run n e))

pub fail_ends : (start w : World) (h i : List Event) (run : ℕ) (s : Step) (fail : Option After) (m : After) → IsNow start w h → (shown w).ended run ≡ false → fail ≡ Some m → i ≡ h ++ Act run s Failed (failing s m) ∷ [] → Ends start run s fail (past_of h) [] Failed (past_of i)
fail_ends start w h i run s fail m n e f q =
    ends_as start run s fail (past_of h) [] Failed (past_of i) (Act run s Failed (failing s m) ∷ past_of h) (past_more h i (Act run s Failed (failing s m)) q) (fails_by m (live_now start w h run n e) f)

pub within_ends : (start w u : World) (h i : List Event) (run : ℕ) (s : Step) (fail : Option After) (keeps : List Keep) (fill : ℕ) → IsNow start w h → (shown w).ended run ≡ false → i ≡ (h ++ Crash u ∷ []) ++ Act run s Failed Before ∷ []
    → IsCrashBy keeps fill (has_acted_or_is run (past_of h)) (made (shown w) run s) (shown u) → Ends start run s fail (past_of h) (happening.Crash keeps fill true ∷ []) Failed (past_of i)
within_ends start w u h i run s fail keeps fill n e q c =
    ends_as start run s fail (past_of h) (happening.Crash keeps fill true ∷ []) Failed (past_of i) (Act run s Failed Before ∷ past_of (h ++ Crash u ∷ [])) (past_more (h ++ Crash u ∷ []) i (Act run s Failed Before) q)
    (ends_as start run s fail (past_of h) (happening.Crash keeps fill true ∷ []) Failed (Act run s Failed Before ∷ past_of (h ++ Crash u ∷ [])) (Act run s Failed Before ∷ (Crash u ∷ past_of h))
    (ap (λ es. Act run s Failed Before ∷ es) (past_more h (h ++ Crash u ∷ []) (Crash u) refl))
    (crashes_within keeps fill u (live_now start w h run n e) (subst (λ x. IsCrashBy keeps fill (has_acted_or_is run (past_of h)) (made x run s) (shown u)) n.shows c)))

answered_by : (start w : World) (h : List Event) (run : ℕ) (s : Step) (a : Answer) → IsNow start w h → Fits (shown w) run s a → IsHonest (shown w) run s a → IsAnsweredBy (world_after start (past_of h)) run s a
answered_by start w h run s a n f t = record {
  unfailed = fits_answers (shown w) run s a f;
  fits = subst (λ x. Fits x run s a) n.shows f;
  honest = subst (λ x. IsHonest x run s a) n.shows t;
}

-- a scripted step
pub acts_dead : {E : Type 0} (start : World) (old new : Course) (run : ℕ) (s : Step) (r : Result Unit E) → IsNow start old.world old.history → (shown old.world).ended run ≡ true
    → OnOk r ((new.history ≡ old.history ++ Act run s Failed Before ∷ []) × (shown new.world ≡ left_by (shown old.world) run s Failed Before)) → OnOk r (IsActed start run s (past_of old.history) (past_of new.history))
acts_dead start old new run s (Ok u) n e k = subst (λ es. IsActed start run s (past_of old.history) es) (sym (past_more old.history new.history (Act run s Failed Before) k.0)) (is_over (dead_now start old.world old.history run n e))
acts_dead start old new run s (Err x) n e k = tt

pub acts_live : (start : World) (old new : Course) (run : ℕ) (s : Step) (a : Answer) → IsNow start old.world old.history → (shown old.world).ended run ≡ false → Fits (shown old.world) run s a → IsHonest (shown old.world) run s a
    → new.history ≡ old.history ++ Act run s a Made ∷ [] → IsActed start run s (past_of old.history) (past_of new.history)
acts_live start old new run s a n e f t k = subst (λ es. IsActed start run s (past_of old.history) es) (sym (past_more old.history new.history (Act run s a Made) k)) (lives a (live_now start old.world old.history run n e) (answered_by start old.world old.history run s a n f t))

-- what an answer of a live run leaves
pub live_goes : {E : Type 0} (start : World) (old new : Course) (run : ℕ) (s : Step) (r : Result Answer E) → IsNow start old.world old.history → (shown old.world).ended run ≡ false → IfOk r (λ a. Fits (shown old.world) run s a)
    → IfOk r (λ a. (new.history ≡ old.history ++ Act run s a Made ∷ []) × (shown new.world ≡ made_by (shown old.world) run s a)) → OnErr r (new ≡ old) → IsNow start new.world new.history
live_goes start old new run s (Ok a) n e f k q = answered_now start old.world new.world old.history new.history run s a n e f k.0 k.1
live_goes start old new run s (Err x) n e f k q = both_same start old new q n

pub live_ends : {E : Type 0} (start : World) (old new : Course) (run : ℕ) (s : Step) (fail : Option After) (r : Result Answer E) → IsNow start old.world old.history → (shown old.world).ended run ≡ false → fail ≡ None → IfOk r (λ a. Fits (shown old.world) run s a)
    → IfOk r (λ a. IsHonest (shown old.world) run s a) → IfOk r (λ a. (new.history ≡ old.history ++ Act run s a Made ∷ []) × (shown new.world ≡ made_by (shown old.world) run s a)) → IfOk r (λ a. Ends start run s fail (past_of old.history) [] a (past_of new.history))
live_ends start old new run s fail (Ok a) n e g f t k =
    ends_as start run s fail (past_of old.history) [] a (past_of new.history) (Act run s a Made ∷ past_of old.history) (past_more old.history new.history (Act run s a Made) k.0)
    (answers a (live_now start old.world old.history run n e) g (answered_by start old.world old.history run s a n f t))
live_ends start old new run s fail (Err x) n e g f t k = tt

answered_length : (start : World) (run : ℕ) (s : Step) (fail : Option After) (past : List Event) (left : List Happening) (a : Answer) (now : List Event) → IsAnswered start run s fail past left a now → length now ≡ length past + (length left + 1)
answered_length start run s fail past _ _ _ (is_dead e) = omega arith
answered_length start run s fail past _ _ _ (fails_by m l e) = omega arith
answered_length start run s fail past _ _ _ (answers a l e h) = omega arith
answered_length start run s fail past _ _ _ (crashes_within keeps fill v l c) = omega arith

-- where the step stands that was asked for
pub asked_at_end : (start : World) (run : ℕ) (s : Step) (fail : Option After) (h i : List Event) (left : List Happening) (a : Answer) → IsAnswered start run s fail (past_of h) left a (past_of i) → length h + (length left + 1) ≡ length i
asked_at_end start run s fail h i left a e =
    let l = answered_length start run s fail (past_of h) left a (past_of i) e in let p = length-reverse h in let q = length-reverse i in omega arith
