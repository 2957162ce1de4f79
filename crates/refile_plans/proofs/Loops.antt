-- Messages leave, one after another; and the marks that withdraw them.
use Rattle.std.proofs.Common.{◌≡◌, ◌∷◌, [], ℕ, ◌+◌, ◌<◌, ◌≤◌, Bool, List, Result, Ok, ap, drop, get_or, length}
use Rattle.std.proofs.lemmas.List.{drop_all}
use Rattle.mh_sequences.specs.Runs.{AreRuns, Numbers, numbers_of}
use Rattle.mh_sequences.specs.Sequences.{Marked}
use Rattle.mh_sequences.specs.declared.mark.Mark.TheVariants.{Withdraw}
use Rattle.folder_files.specs.declared.place.Place.{Place}
use Rattle.file_plans.specs.Follows.{Follows, State}
use Rattle.file_plans.specs.Plan.{◌>>=◌}
use Rattle.file_plans.proofs.Following.{done, same_plan}
use Rattle.step_plans.specs.PlanFaults.{plan_cause}
use Rattle.step_plans.specs.Removing.{message_removed}
use Rattle.step_plans.specs.declared.fault.PlanFault.{PlanFault}
use Rattle.sequence_commits.specs.Marking.{marked_by, marked_by_all}
use Rattle.opening_plans.proofs.Sets.{numbers_set}
use Rattle.mh_looks.proofs.Showing.{next}
use Rattle.refile_plans.specs.Rmm.{all_removed, withdrawn}

pub turn : (run : ℕ) (p : Place) (b : Bool) (l : List ℕ) (i : ℕ) (n : ℕ) (x y : State) (r : Result Unit PlanFault) → i < length l → n ≡ get_or l i n
    → Follows run plan_cause (message_removed p n b >>= λ gone. all_removed p b (drop (i + 1) l)) x y r → Follows run plan_cause (all_removed p b (drop i l)) x y r
unfolding all_removed
turn run p b l i n x y r h is f = same_plan _ _ (ap (all_removed p b) (next l i n h is)) f

pub end : (run : ℕ) (p : Place) (b : Bool) (l : List ℕ) (i : ℕ) (x : State) → length l ≤ i → Follows run plan_cause (all_removed p b (drop i l)) x x (Ok tt)
unfolding all_removed
end run p b l i x h = rw (drop_all i l h) done

-- the numbers of a set leave the sequences, whatever room the set has
pub withdraws : (s : Numbers) (m : Marked) → AreRuns s.runs → marked_by_all (Withdraw s ∷ []) m ≡ withdrawn (numbers_of s.runs) m
unfolding marked_by_all marked_by
withdraws s m valid = ap (λ runs. marked_by (Withdraw (record { runs = runs; spare = 0 })) m) (numbers_set s.runs valid)
