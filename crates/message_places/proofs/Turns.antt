-- One message after another: code that follows the plan by which messages change places.
use Rattle.std.proofs.Common.{◌≡◌, ◌<◌, ◌≤◌, ◌+◌, ◌-◌, ◌++◌, ◌∷◌, [], ℕ, max, List, Option, Some, None, Result, Ok, refl, sym, ◌∙◌, ap, arith, drop, get_or, length}
use Rattle.std.specs.Prelude.{slice_get}
use Rattle.std.specs.List.{last_or}
use Rattle.std.proofs.lemmas.List.{drop_all}
use Rattle.folder_files.specs.declared.place.Place.{Place}
use Rattle.file_plans.specs.Follows.{Follows, State}
use Rattle.file_plans.specs.Plan.{◌>>=◌}
use Rattle.file_plans.proofs.Following.{done, same_plan}
use Rattle.step_plans.specs.Locking.{removed}
use Rattle.step_plans.specs.PlanFaults.{plan_cause}
use Rattle.step_plans.specs.declared.fault.PlanFault.{PlanFault}
use Rattle.step_plans.proofs.Rounds.{next}
use Rattle.message_moves.specs.Moving.{number_taken}
use Rattle.message_places.specs.Arranging.{all_dropped, all_given, all_taken, aside_name, dropped_safely, given, let_go_after, let_go_by}
use Rattle.message_places.specs.declared.moves.Move.{Move}

last_after : (n : ℕ) (ns : List ℕ) → last_or (Some n) ns ≡ slice_get (n ∷ ns) (length ns)
last_after n [] = refl
last_after n (m ∷ ns) = last_after m ns

last_is : (ns : List ℕ) → last_or None ns ≡ slice_get ns (length ns - 1)
last_is [] = refl
last_is (n ∷ ns) = let e : length (n ∷ ns) - 1 ≡ length ns = omega arith in rw e (last_after n ns)

module _ (run : ℕ) (p : Place) where
  -- the next is held aside, and those after it
  pub one_taken : (l : List ℕ) (i n : ℕ) {x y : State} {r : Result Unit PlanFault} → i < length l → n ≡ get_or l i n → Follows run plan_cause (number_taken run p n >>= λ held. all_taken run p (drop (i + 1) l)) x y r
      → Follows run plan_cause (all_taken run p (drop i l)) x y r
  unfolding all_taken
  one_taken l i n lt is f = same_plan _ _ (ap (all_taken run p) (next l i n lt is)) f

  pub none_taken : (l : List ℕ) (i : ℕ) {x : State} → length l ≤ i → Follows run plan_cause (all_taken run p (drop i l)) x x (Ok tt)
  unfolding all_taken
  none_taken l i le = rw (drop_all i l le) done

  -- the next is given its number
  pub one_given : (l : List Move) (i : ℕ) (m : Move) (top : ℕ) (before : List ℕ) {x y : State} {r : Result (List ℕ) PlanFault} → i < length l → m ≡ get_or l i m
      → Follows run plan_cause (given run p m top >>= λ end. all_given run p (drop (i + 1) l) (max end top) (before ++ end ∷ [])) x y r → Follows run plan_cause (all_given run p (drop i l) top before) x y r
  unfolding all_given
  one_given l i m top before lt is f = same_plan _ _ (ap (λ ms. all_given run p ms top before) (next l i m lt is)) f

  pub none_given : (l : List Move) (i top : ℕ) (before : List ℕ) {x : State} → length l ≤ i → Follows run plan_cause (all_given run p (drop i l) top before) x x (Ok before)
  unfolding all_given
  none_given l i top before le = rw (drop_all i l le) done

  -- the next held name goes
  pub one_dropped : (l : List Move) (i : ℕ) (m : Move) {x y : State} {r : Result Unit PlanFault} → i < length l → m ≡ get_or l i m → Follows run plan_cause (removed p (aside_name run m.from) >>= λ gone. all_dropped run p (drop (i + 1) l)) x y r
      → Follows run plan_cause (all_dropped run p (drop i l)) x y r
  unfolding all_dropped
  one_dropped l i m lt is f = same_plan _ _ (ap (all_dropped run p) (next l i m lt is)) f

  pub none_dropped : (l : List Move) (i : ℕ) {x : State} → length l ≤ i → Follows run plan_cause (all_dropped run p (drop i l)) x x (Ok tt)
  unfolding all_dropped
  none_dropped l i le = rw (drop_all i l le) done

  -- none was given a number, or one was the last
  pub let_go_none : (ms : List Move) (ends : List ℕ) (o : Option ℕ) {x : State} → o ≡ slice_get ends (length ends - 1) → o ≡ None → Follows run plan_cause (let_go_after run p ms ends) x x (Ok tt)
  let_go_none ms ends o e is = same_plan _ _ (ap (let_go_by run p ms) (last_is ends ∙ sym e ∙ is)) done

  pub let_go_some : (ms : List Move) (ends : List ℕ) (o : Option ℕ) (n : ℕ) {x y : State} {r : Result Unit PlanFault} → o ≡ slice_get ends (length ends - 1) → o ≡ Some n → Follows run plan_cause (dropped_safely run p ms n) x y r
      → Follows run plan_cause (let_go_after run p ms ends) x y r
  let_go_some ms ends o n e is f = same_plan _ _ (ap (let_go_by run p ms) (last_is ends ∙ sym e ∙ is)) f
