-- Courses go on by events, and stay possible.
use Rattle.std.specs.Prelude.{not, IsTrue, OnOk, OnErr, Result, Ok, Err}
use Rattle.folder_room.specs.declared.course.Course.{Course}
use Rattle.std.proofs.Common.{◌≡◌, ◌==◌, ◌||◌, ◌&&◌, ◌++◌, ◌∷◌, [], ℕ, Bool, true, false, List, refl, sym, ◌∙◌, ap, subst}
use Rattle.std.proofs.lemmas.List.{reverse-append}
use Rattle.folder_files.specs.Histories.{IsLegal, begins, answers, fails, is_dead, delivers, crashes, crashes_within, stops, IsLive, past_of, world_after, after_event, after_end, after_delivery, has_acted}
use Rattle.folder_files.specs.Steps.{Fits, made, made_by, left_by, MayLeave}
use Rattle.folder_files.specs.Places.{same_place}
use Rattle.folder_files.specs.Worlds.{WorldMap, shown}
use Rattle.folder_files.specs.declared.place.Place.{Place}
use Rattle.folder_files.specs.declared.place.FilePath.{FilePath}
use Rattle.folder_files.specs.declared.step.Step.{Step}
use Rattle.folder_files.specs.declared.step.Step.TheVariants as step
use Rattle.folder_files.specs.declared.step.Answer.{Answer}
use Rattle.folder_files.specs.declared.step.Answer.TheVariants.{Failed}
use Rattle.folder_files.specs.declared.event.After.{After}
use Rattle.folder_files.specs.declared.event.After.TheVariants.{Before, Made, Torn}
use Rattle.folder_files.specs.declared.event.Event.{Event}
use Rattle.folder_files.specs.declared.event.Event.TheVariants.{Act, Deliver, Crash, End}
use Rattle.folder_files.specs.declared.world.World.{World}
use Rattle.folder_room.specs.Crashing.{IsCrashBy}
use Rattle.folder_room.specs.Played.{has_acted_or_is, failing}
use Rattle.folder_room.specs.Seen.{IsNow}
use Rattle.folder_room.specs.declared.script.Keep.{Keep}
use Rattle.folder_room.proofs.Crashed.{image_of}

pub past_more : (h i : List Event) (e : Event) → i ≡ h ++ e ∷ [] → past_of i ≡ e ∷ past_of h
past_more h i e q = ap past_of q ∙ reverse-append h (e ∷ [])

-- one event more
pub now_more : (start w v : World) (h i : List Event) (e : Event) → IsNow start w h → i ≡ h ++ e ∷ [] → shown v ≡ after_event (shown w) e → IsLegal start (e ∷ past_of h) → IsNow start v i
unfolding world_after
now_more start w v h i e n q s l = record {
  shows = s ∙ ap (λ x. after_event x e) n.shows ∙ ap (world_after start) (sym (past_more h i e q));
  legal = subst (IsLegal start) (sym (past_more h i e q)) l;
}

pub live_now : (start w : World) (h : List Event) (run : ℕ) → IsNow start w h → (shown w).ended run ≡ false → IsLive run (world_after start (past_of h))
live_now start w h run n e = ap (λ x. x.ended run) (sym n.shows) ∙ e

pub dead_now : (start w : World) (h : List Event) (run : ℕ) → IsNow start w h → (shown w).ended run ≡ true → (world_after start (past_of h)).ended run ≡ true
dead_now start w h run n e = ap (λ x. x.ended run) (sym n.shows) ∙ e

pub answered_now : (start w v : World) (h i : List Event) (run : ℕ) (s : Step) (a : Answer) → IsNow start w h → (shown w).ended run ≡ false → Fits (shown w) run s a → i ≡ h ++ Act run s a Made ∷ [] → shown v ≡ made_by (shown w) run s a → IsNow start v i
answered_now start w v h i run s a n e f q m =
    now_more start w v h i (Act run s a Made) n q m (answers run s a n.legal (live_now start w h run n e) (subst (λ x. Fits x run s a) n.shows f))

pub dead_step_now : (start w v : World) (h i : List Event) (run : ℕ) (s : Step) → IsNow start w h → (shown w).ended run ≡ true → i ≡ h ++ Act run s Failed Before ∷ [] → shown v ≡ left_by (shown w) run s Failed Before → IsNow start v i
dead_step_now start w v h i run s n e q m = now_more start w v h i (Act run s Failed Before) n q m (is_dead run s n.legal (dead_now start w h run n e))

may_fail : (s : Step) (m : After) → MayLeave s (failing s m)
may_fail (step.Create p n b) (Torn c) = tt
may_fail (step.Create p n b) Before = tt
may_fail (step.Create p n b) Made = tt
may_fail (step.List p) (Torn c) = tt
may_fail (step.List p) Before = tt
may_fail (step.List p) Made = tt
may_fail (step.Read p n l) (Torn c) = tt
may_fail (step.Read p n l) Before = tt
may_fail (step.Read p n l) Made = tt
may_fail (step.MakeFolder p) (Torn c) = tt
may_fail (step.MakeFolder p) Before = tt
may_fail (step.MakeFolder p) Made = tt
may_fail (step.SyncFile p n) (Torn c) = tt
may_fail (step.SyncFile p n) Before = tt
may_fail (step.SyncFile p n) Made = tt
may_fail (step.SyncFolder p) (Torn c) = tt
may_fail (step.SyncFolder p) Before = tt
may_fail (step.SyncFolder p) Made = tt
may_fail (step.Link p a b) (Torn c) = tt
may_fail (step.Link p a b) Before = tt
may_fail (step.Link p a b) Made = tt
may_fail (step.Rename p a b) (Torn c) = tt
may_fail (step.Rename p a b) Before = tt
may_fail (step.Rename p a b) Made = tt
may_fail (step.Unlink p a) (Torn c) = tt
may_fail (step.Unlink p a) Before = tt
may_fail (step.Unlink p a) Made = tt
may_fail (step.Lock p) (Torn c) = tt
may_fail (step.Lock p) Before = tt
may_fail (step.Lock p) Made = tt
may_fail (step.Unlock p) (Torn c) = tt
may_fail (step.Unlock p) Before = tt
may_fail (step.Unlock p) Made = tt
may_fail (step.ReadFile f l) (Torn c) = tt
may_fail (step.ReadFile f l) Before = tt
may_fail (step.ReadFile f l) Made = tt
may_fail (step.ReadDrop f a b) (Torn c) = tt
may_fail (step.ReadDrop f a b) Before = tt
may_fail (step.ReadDrop f a b) Made = tt
may_fail (step.CutDrop f l) (Torn c) = tt
may_fail (step.CutDrop f l) Before = tt
may_fail (step.CutDrop f l) Made = tt

pub failed_now : (start w v : World) (h i : List Event) (run : ℕ) (s : Step) (m : After) → IsNow start w h → (shown w).ended run ≡ false → i ≡ h ++ Act run s Failed (failing s m) ∷ [] → shown v ≡ left_by (shown w) run s Failed (failing s m) → IsNow start v i
failed_now start w v h i run s m n e q p = now_more start w v h i (Act run s Failed (failing s m)) n q p (fails run s (failing s m) n.legal (live_now start w h run n e) (may_fail s m))

pub delivered_now : (start w v : World) (h i : List Event) (path : FilePath) (piece : List ℕ) → IsNow start w h → i ≡ h ++ Deliver path piece ∷ [] → shown v ≡ after_delivery (shown w) path piece → IsNow start v i
delivered_now start w v h i path piece n q m = now_more start w v h i (Deliver path piece) n q m (delivers path piece n.legal)

pub ended_now : (start w v : World) (h i : List Event) (run : ℕ) → IsNow start w h → i ≡ h ++ End run ∷ [] → shown v ≡ after_end (shown w) run → IsNow start v i
ended_now start w v h i run n q m = now_more start w v h i (End run) n q m (stops run n.legal)

-- a crash in the history's own world
pub crash_by : (start w u : World) (h : List Event) (run : ℕ) (keeps : List Keep) (fill : ℕ) → IsNow start w h → IsCrashBy keeps fill (has_acted_or_is run (past_of h)) (shown w) (shown u)
    → IsCrashBy keeps fill (has_acted_or_is run (past_of h)) (world_after start (past_of h)) (shown u)
crash_by start w u h run keeps fill n c = subst (λ x. IsCrashBy keeps fill (has_acted_or_is run (past_of h)) x (shown u)) n.shows c

acted_less : (run : ℕ) (past : List Event) (r : ℕ) (old : Bool) → has_acted past r || old ≡ true → has_acted_or_is run past r || old ≡ true
acted_less run past r old e = go (run == r) (has_acted past r) old e
  where
    go : (a b c : Bool) → b || c ≡ true → (a || b) || c ≡ true
    go true b c q = refl
    go false b c q = q

pub crashed_now : (start w v u : World) (h i : List Event) (run : ℕ) (keeps : List Keep) (fill : ℕ) → IsNow start w h → i ≡ h ++ Crash u ∷ [] → shown v ≡ shown u
    → IsCrashBy keeps fill (has_acted_or_is run (past_of h)) (shown w) (shown u) → IsNow start v i
crashed_now start w v u h i run keeps fill n q m c =
    let image = image_of keeps fill (has_acted_or_is run (past_of h)) (world_after start (past_of h)) (shown u) (crash_by start w u h run keeps fill n c) in
    now_more start w v h i (Crash u) n q m (crashes u n.legal (record {
      directories = image.directories;
      kept_bytes = image.kept_bytes;
      all_safe = image.all_safe;
      next_file = image.next_file;
      outside = image.outside;
      no_lock = image.no_lock;
      ended = λ r e. image.ended r (acted_less run (past_of h) r ((world_after start (past_of h)).ended r) e);
    }))

-- a step that isn't made changes nothing where no lock is had
unmade_free : (w : WorldMap) (run : ℕ) (s : Step) → ((p : Place) (r : ℕ) → w.holds p r ≡ false) → w ≡ left_by w run s Failed Before
unfolding made
unmade_free w run (step.Unlock q) free = λ i. record {
  directories = w.directories;
  files = w.files;
  next_file = w.next_file;
  outside = w.outside;
  holds = λ p r. (free p r ∙ sym (never (not (same_place q p && run == r))) ∙ ap (λ b. not (same_place q p && run == r) && b) (sym (free p r))) i;
  ended = w.ended;
}
  where
    never : (b : Bool) → b && false ≡ false
    never true = refl
    never false = refl
unmade_free w run (step.List p) free = refl
unmade_free w run (step.Read p n l) free = refl
unmade_free w run (step.MakeFolder p) free = refl
unmade_free w run (step.Create p n b) free = refl
unmade_free w run (step.SyncFile p n) free = refl
unmade_free w run (step.SyncFolder p) free = refl
unmade_free w run (step.Link p a b) free = refl
unmade_free w run (step.Rename p a b) free = refl
unmade_free w run (step.Unlink p a) free = refl
unmade_free w run (step.Lock p) free = refl
unmade_free w run (step.ReadFile f l) free = refl
unmade_free w run (step.ReadDrop f a b) free = refl
unmade_free w run (step.CutDrop f l) free = refl

pub within_now : (start w v u : World) (h i : List Event) (run : ℕ) (s : Step) (keeps : List Keep) (fill : ℕ) → IsNow start w h → (shown w).ended run ≡ false → i ≡ (h ++ Crash u ∷ []) ++ Act run s Failed Before ∷ [] → shown v ≡ shown u
    → IsCrashBy keeps fill (has_acted_or_is run (past_of h)) (made (shown w) run s) (shown u) → IsNow start v i
unfolding world_after
within_now start w v u h i run s keeps fill n e q m c =
    let pasts : past_of i ≡ Act run s Failed Before ∷ (Crash u ∷ past_of h) = past_more (h ++ Crash u ∷ []) i (Act run s Failed Before) q ∙ ap (λ t. Act run s Failed Before ∷ t) (past_more h (h ++ Crash u ∷ []) (Crash u) refl) in
    record {
      shows = m ∙ unmade_free (shown u) run s c.no_lock ∙ ap (world_after start) (sym pasts);
      legal = subst (IsLegal start) (sym pasts)
          (crashes_within u run s n.legal (live_now start w h run n e)
          (image_of keeps fill (has_acted_or_is run (past_of h)) (made (world_after start (past_of h)) run s) (shown u) (subst (λ x. IsCrashBy keeps fill (has_acted_or_is run (past_of h)) (made x run s) (shown u)) n.shows c)));
    }

-- whatever a call answers
pub either_way : {T E : Type 0} {P Q R : Type 0} (r : Result T E) → OnOk r P → OnErr r Q → (P → R) → (Q → R) → R
either_way (Ok x) p q f g = f p
either_way (Err e) p q f g = g q

pub same_now : (start w v : World) (h i : List Event) → w ≡ v → h ≡ i → IsNow start w h → IsNow start v i
same_now start w v h i e f n = subst (λ x. IsNow start x i) e (subst (λ x. IsNow start w x) f n)

pub both_same : (start : World) (old new : Course) → new ≡ old → IsNow start old.world old.history → IsNow start new.world new.history
both_same start old new e n = subst (λ (x : Course). IsNow start x.world x.history) (sym e) n

pub is_false : (b : Bool) → b ≡ false → IsTrue b → ⊥
is_false true e t = absurd (cc (e))
is_false false e t = absurd (cc (t))

pub first_now : (start w : World) (h : List Event) → start ≡ w → h ≡ [] → IsNow start w h
unfolding world_after
first_now start w h e q = record { shows = ap shown (sym e) ∙ ap (λ es. world_after start (past_of es)) (sym q); legal = subst (λ es. IsLegal start (past_of es)) (sym q) begins }
