-- Names that are unlinked where they are temporary.
use Rattle.std.proofs.Common.{◌≡◌, ◌<◌, ◌≤◌, ◌+◌, ℕ, List, Bool, true, false, Result, Ok, sym, ap, drop, get_or, length}
use Rattle.std.proofs.lemmas.List.{drop_all}
use Rattle.mh_base.specs.Entries.{kind_of}
use Rattle.folder_files.specs.Named.{is_temp}
use Rattle.folder_files.specs.declared.place.Place.{Place}
use Rattle.file_plans.specs.Plan.{◌>>=◌}
use Rattle.file_plans.specs.Follows.{State, Follows}
use Rattle.file_plans.proofs.Following.{done, same_plan}
use Rattle.step_plans.specs.Locking.{removed, cleared_one, cleared}
use Rattle.step_plans.specs.PlanFaults.{plan_cause}
use Rattle.step_plans.specs.declared.fault.PlanFault.{PlanFault}
use Rattle.step_plans.proofs.Rounds.{next}

pub is_cleared : (run : ℕ) (p : Place) (n : List ℕ) (b : Bool) {x y : State} {r : Result Unit PlanFault} → b ≡ is_temp (kind_of n) → b ≡ true → Follows run plan_cause (removed p n) x y r → Follows run plan_cause (cleared_one p n) x y r
unfolding cleared_one
is_cleared run p n b e t f = rw (sym e, t) f

pub is_passed : (run : ℕ) (p : Place) (n : List ℕ) (b : Bool) {x : State} → b ≡ is_temp (kind_of n) → b ≡ false → Follows run plan_cause (cleared_one p n) x x (Ok tt)
unfolding cleared_one
is_passed run p n b e t = rw (sym e, t) done

pub one_name : (run : ℕ) (p : Place) (l : List (List ℕ)) (i : ℕ) (n : List ℕ) {x y : State} {r : Result Unit PlanFault} → i < length l → n ≡ get_or l i n →
    Follows run plan_cause (cleared_one p n >>= λ u. cleared p (drop (i + 1) l)) x y r → Follows run plan_cause (cleared p (drop i l)) x y r
unfolding cleared
one_name run p l i n h is f = same_plan _ _ (ap (cleared p) (next l i n h is)) f

pub no_name : (run : ℕ) (p : Place) (l : List (List ℕ)) (i : ℕ) {x : State} → length l ≤ i → Follows run plan_cause (cleared p (drop i l)) x x (Ok tt)
unfolding cleared
no_name run p l i h = rw (drop_all i l h) done
