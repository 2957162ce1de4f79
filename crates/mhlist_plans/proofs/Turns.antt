-- The messages that are listed, one after another.
use Rattle.std.proofs.Common.{◌≡◌, List, ℕ, ◌+◌, ◌<◌, ◌≤◌, Result, Ok, ap, drop, get_or, length}
use Rattle.std.proofs.lemmas.List.{drop_all}
use Rattle.folder_files.specs.declared.place.Place.{Place}
use Rattle.file_plans.specs.Plan.{◌>>=◌}
use Rattle.file_plans.specs.Follows.{State, Follows}
use Rattle.file_plans.proofs.Following.{same_plan, done}
use Rattle.step_plans.specs.CommandFaults.{command_cause}
use Rattle.step_plans.specs.declared.command_fault.CommandFault.{CommandFault}
use Rattle.mh_looks.proofs.Showing.{next}
use Rattle.mhlist_plans.specs.Listing.{all_listed, one_listed}

pub turn : (run : ℕ) (wanted : List (List ℕ)) (place : Place) (l : List ℕ) (i n : ℕ) (x y : State) (r : Result Unit CommandFault) → i < length l → n ≡ get_or l i n →
    Follows run command_cause (one_listed wanted place n >>= λ u. all_listed wanted place (drop (i + 1) l)) x y r → Follows run command_cause (all_listed wanted place (drop i l)) x y r
unfolding all_listed
turn run wanted place l i n x y r h is f = same_plan _ _ (ap (all_listed wanted place) (next l i n h is)) f

pub end : (run : ℕ) (wanted : List (List ℕ)) (place : Place) (l : List ℕ) (i : ℕ) (x : State) → length l ≤ i → Follows run command_cause (all_listed wanted place (drop i l)) x x (Ok tt)
unfolding all_listed
end run wanted place l i x h = rw (drop_all i l h) done
