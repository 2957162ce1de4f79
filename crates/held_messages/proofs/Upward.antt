-- Numbers tried from one upward, and messages put home one after another.
use Rattle.std.proofs.Common.{◌≡◌, ◌<◌, ◌≤◌, ◌+◌, ◌-◌, ◌∷◌, ◌++◌, [], ℕ, suc, List, Option, Some, None, Result, Ok, Err, refl, sym, ◌∙◌, ap, arith, drop, get_or, length, min, ◌⊎◌, inl, inr}
use Rattle.std.proofs.lemmas.List.{drop_all}
use Rattle.std.proofs.lemmas.Bool.Decides.{nat_tests}
use Rattle.folder_files.specs.declared.place.Place.{Place}
use Rattle.file_plans.specs.Follows.{State, Follows}
use Rattle.file_plans.specs.Plan.{Return, ◌>>=◌}
use Rattle.file_plans.specs.Asking.{link, stop_cause}
use Rattle.file_plans.specs.declared.answers.Entered.{Entered}
use Rattle.file_plans.specs.declared.asking.Stop.{Stop}
use Rattle.file_plans.proofs.Following.{done, lift_err, lift_ok, same_plan}
use Rattle.std.specs.Prelude.{IsErr, IsErrAnd, decimal}
use Rattle.step_plans.specs.PlanFaults.{of_stop, plan_cause}
use Rattle.step_plans.specs.declared.fault.PlanFault.{PlanFault}
use Rattle.step_plans.proofs.Faulting.{stop_same}
use Rattle.step_plans.proofs.Rounds.{next}
use Rattle.held_messages.specs.declared.held.HeldPair.{HeldPair}
use Rattle.held_messages.specs.HeldPairs.{top_after}
use Rattle.held_messages.specs.Settle.{linked, given_at, given_up, given_from, homed, all_homed, dropped_one, dropped, dropped_safely, settled_by, last_put, or_before}

fuel : (n : ℕ) → n < 1000000 → 1000000 - n ≡ suc (1000000 - (n + 1))
fuel n h = omega (arith, h)

none_left : (n : ℕ) → 1000000 ≤ n → 1000000 - n ≡ 0
none_left n h = omega (arith, h)

-- this number, and those above it
pub one_number : (run : ℕ) (p : Place) (t : List ℕ) (n : ℕ) {x y : State} {r : Result (Option ℕ) PlanFault} → n < 1000000 →
    Follows run plan_cause (linked p t n >>= λ e. given_at p t n e (given_from p t (n + 1))) x y r → Follows run plan_cause (given_from p t n) x y r
unfolding given_up
one_number run p t n h f = rw (fuel n h) f

pub no_number : (run : ℕ) (p : Place) (t : List ℕ) (n : ℕ) {x : State} → 1000000 ≤ n → Follows run plan_cause (given_from p t n) x x (Ok None)
unfolding given_up
no_number run p t n h = rw (none_left n h) done

-- this message, and those after it
pub one_pair : (run : ℕ) (p : Place) (l : List HeldPair) (i : ℕ) (h : HeldPair) (top : ℕ) (before : List (Option ℕ)) {x y : State} {r : Result (List (Option ℕ)) PlanFault} → i < length l → h ≡ get_or l i h →
    Follows run plan_cause (homed p h top >>= λ end. all_homed p (drop (i + 1) l) (top_after end top) (before ++ end ∷ [])) x y r → Follows run plan_cause (all_homed p (drop i l) top before) x y r
unfolding all_homed
one_pair run p l i h top before lt is f = same_plan _ _ (ap (λ hs. all_homed p hs top before) (next l i h lt is)) f

pub no_pair : (run : ℕ) (p : Place) (l : List HeldPair) (i top : ℕ) (before : List (Option ℕ)) {x : State} → length l ≤ i → Follows run plan_cause (all_homed p (drop i l) top before) x x (Ok before)
unfolding all_homed
no_pair run p l i top before h = rw (drop_all i l h) done

pub one_drop : (run : ℕ) (p : Place) (l : List HeldPair) (ends : List (Option ℕ)) (i : ℕ) (h : HeldPair) (end : Option ℕ) {x y : State} {r : Result Unit PlanFault} → i < length l → i < length ends → h ≡ get_or l i h → end ≡ get_or ends i end →
    Follows run plan_cause (dropped_one p h end >>= λ u. dropped p (drop (i + 1) l) (drop (i + 1) ends)) x y r → Follows run plan_cause (dropped p (drop i l) (drop i ends)) x y r
unfolding dropped
one_drop run p l ends i h end lt le is at f = same_plan _ _ (λ j. dropped p (next l i h lt is j) (next ends i end le at j)) f

no_drops : (p : Place) (hs : List HeldPair) → dropped p hs [] ≡ Return (Ok tt)
unfolding dropped
no_drops p [] = refl
no_drops p (h ∷ hs) = refl

pub below_first : (a b m i : ℕ) → m ≡ min a b → i < m → i < a
below_first a b m i e h = grind (arith, nat_tests, e, h)

pub below_second : (a b m i : ℕ) → m ≡ min a b → i < m → i < b
below_second a b m i e h = grind (arith, nat_tests, e, h)

no_pairs : (p : Place) (ks : List (Option ℕ)) → dropped p [] ks ≡ Return (Ok tt)
unfolding dropped
no_pairs p ks = refl

pub drops_end : (run : ℕ) (p : Place) (l : List HeldPair) (ends : List (Option ℕ)) (i : ℕ) {x : State} → min (length l) (length ends) ≤ i → Follows run plan_cause (dropped p (drop i l) (drop i ends)) x x (Ok tt)
drops_end run p l ends i h = elim (either (length l) (length ends) i h) [ inl e ↦ by_pairs e | inr e ↦ by_ends e ]
  where
    either : (a b i : ℕ) → min a b ≤ i → (a ≤ i) ⊎ (b ≤ i)
    either a b i h = grind (arith, nat_tests)

    by_pairs : {x : State} → length l ≤ i → Follows run plan_cause (dropped p (drop i l) (drop i ends)) x x (Ok tt)
    by_pairs e = rw (drop_all i l e) (same_plan _ _ (no_pairs p (drop i ends)) done)

    by_ends : {x : State} → length ends ≤ i → Follows run plan_cause (dropped p (drop i l) (drop i ends)) x x (Ok tt)
    by_ends e = rw (drop_all i ends e) (same_plan _ _ (no_drops p (drop i l)) done)

-- the number put last
pub later_put : (ends : List (Option ℕ)) (i : ℕ) (end before now : Option ℕ) → i < length ends → end ≡ get_or ends i end → now ≡ or_before end before → last_put (drop i ends) before ≡ last_put ends None → last_put (drop (i + 1) ends) now ≡ last_put ends None
unfolding last_put
later_put ends i end before now lt is e so = ap (λ z. last_put (drop (i + 1) ends) z) e ∙ (sym (ap (λ l. last_put l before) (next ends i end lt is)) ∙ so)

pub all_put : (ends : List (Option ℕ)) (i : ℕ) (now : Option ℕ) → length ends ≤ i → last_put (drop i ends) now ≡ last_put ends None → now ≡ last_put ends None
unfolding last_put
all_put ends i now le so = sym (ap (λ l. last_put l now) (drop_all i ends le)) ∙ so

-- a link
pub links : (run : ℕ) (p : Place) (held : List ℕ) (n : ℕ) {x y : State} {e : Entered} → Follows run stop_cause (link p held (decimal n)) x y (Ok e) → Follows run plan_cause (linked p held n) x y (Ok e)
links run p held n {x = x} {y = y} {e = e} f = lift_ok run stop_cause plan_cause of_stop (link p held (decimal n)) x y e f

pub links_not : (run : ℕ) (p : Place) (held : List ℕ) (n : ℕ) {x y : State} {e : Stop} (r : Result Entered PlanFault) → Follows run stop_cause (link p held (decimal n)) x y (Err e) → IsErr r × IsErrAnd r (λ f. f ≡ of_stop e) → Follows run plan_cause (linked p held n) x y r
links_not run p held n (Ok a) f is = absurd (let h = is.0 in cc)
links_not run p held n {x = x} {y = y} {e = e} (Err g) f is = lift_err run stop_cause plan_cause of_stop (link p held (decimal n)) x y e g stop_same is.1 f

-- what is left to do after the links
pub settles_none : {run : ℕ} (p : Place) (hs : List HeldPair) (ends : List (Option ℕ)) (o : Option ℕ) {x : State} → o ≡ last_put ends None → o ≡ None → Follows run plan_cause (settled_by p hs ends (last_put ends None)) x x (Ok ends)
settles_none p hs ends o e f = same_plan _ _ (ap (settled_by p hs ends) (sym e ∙ f)) done

pub settles_some : {run : ℕ} (p : Place) (hs : List HeldPair) (ends : List (Option ℕ)) (o : Option ℕ) (m : ℕ) {x y : State} {r : Result (List (Option ℕ)) PlanFault} → o ≡ last_put ends None → o ≡ Some m → Follows run plan_cause (dropped_safely p hs ends m) x y r → Follows run plan_cause (settled_by p hs ends (last_put ends None)) x y r
settles_some p hs ends o m e f g = same_plan _ _ (ap (settled_by p hs ends) (sym e ∙ f)) g
