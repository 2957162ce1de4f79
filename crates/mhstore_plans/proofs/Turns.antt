-- Files and messages, one after another.
use Rattle.std.proofs.Common.{◌≡◌, List, ℕ, ◌+◌, ◌<◌, ◌≤◌, Result, Ok, ap, drop, get_or, length, map}
use Rattle.std.proofs.lemmas.List.{drop_all}
use Rattle.folder_files.specs.declared.place.Place.{Place}
use Rattle.file_plans.specs.Plan.{◌>>=◌}
use Rattle.file_plans.specs.Follows.{State, Follows}
use Rattle.file_plans.proofs.Following.{done, same_plan}
use Rattle.step_plans.specs.CommandFaults.{command_cause}
use Rattle.step_plans.specs.declared.command_fault.CommandFault.{CommandFault}
use Rattle.step_plans.proofs.Rounds.{next}
use Rattle.part_rows.specs.FileNames.{StoredFile}
use Rattle.mhstore_plans.specs.Storing.{all_filed, all_stored, one_filed, one_stored}
use Rattle.mhstore_plans.specs.declared.job.StoreJob.{StoreJob}

module _ (run : ℕ) (job : StoreJob) where
  module _ {A : Type 0} (file : A → StoredFile) (l : List A) (i : ℕ) where
    pub filed_turn : (p : A) {x y : State} {r : Result Unit CommandFault} → i < length l → p ≡ get_or l i p
        → Follows run command_cause (one_filed run job (file p) >>= λ u. all_filed run job (map file (drop (i + 1) l))) x y r → Follows run command_cause (all_filed run job (map file (drop i l))) x y r
    unfolding all_filed
    filed_turn p lt is f = same_plan _ _ (ap (λ ps. all_filed run job (map file ps)) (next l i p lt is)) f

    pub filed_end : {x : State} → length l ≤ i → Follows run command_cause (all_filed run job (map file (drop i l))) x x (Ok tt)
    unfolding all_filed
    filed_end le = rw (drop_all i l le) done

  module _ (place : Place) (l : List ℕ) (i : ℕ) where
    pub stored_turn : (n : ℕ) {x y : State} {r : Result Unit CommandFault} → i < length l → n ≡ get_or l i n
        → Follows run command_cause (one_stored run job place n >>= λ u. all_stored run job place (drop (i + 1) l)) x y r → Follows run command_cause (all_stored run job place (drop i l)) x y r
    unfolding all_stored
    stored_turn n lt is f = same_plan _ _ (ap (λ ns. all_stored run job place ns) (next l i n lt is)) f

    pub stored_end : {x : State} → length l ≤ i → Follows run command_cause (all_stored run job place (drop i l)) x x (Ok tt)
    unfolding all_stored
    stored_end le = rw (drop_all i l le) done
