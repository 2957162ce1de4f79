-- The messages that are shown, one after another.
use Rattle.std.proofs.Common.{◌≡◌, ◌∷◌, List, ℕ, ◌+◌, suc, ◌<◌, ◌≤◌, Result, Ok, sym, ap, drop, get_or, length, add-one}
use Rattle.std.proofs.Math.Seq.{drop-cons}
use Rattle.std.proofs.lemmas.List.{drop_all}
use Rattle.folder_files.specs.declared.place.Place.{Place}
use Rattle.file_plans.specs.Plan.{◌>>=◌}
use Rattle.file_plans.specs.Follows.{State, Follows}
use Rattle.file_plans.proofs.Following.{same_plan, done}
use Rattle.step_plans.specs.CommandFaults.{command_cause}
use Rattle.step_plans.specs.declared.command_fault.CommandFault.{CommandFault}
use Rattle.message_lines.specs.MessageText.{Writing}
use Rattle.mh_looks.specs.Scan.{one_shown, all_shown}

pub next : (l : List ℕ) (i : ℕ) (x : ℕ) → i < length l → x ≡ get_or l i x → drop i l ≡ x ∷ drop (i + 1) l
next l i x h is = rw (add-one, drop-cons l i x) (ap (λ y. y ∷ drop (suc i) l) (sym is))

pub turn : (run : ℕ) (lined : Writing) (place : Place) (l : List ℕ) (i n : ℕ) (x y : State) (r : Result Unit CommandFault) → i < length l → n ≡ get_or l i n →
    Follows run command_cause (one_shown lined place n >>= λ u. all_shown lined place (drop (i + 1) l)) x y r → Follows run command_cause (all_shown lined place (drop i l)) x y r
unfolding all_shown
turn run lined place l i n x y r h is f = same_plan _ _ (ap (all_shown lined place) (next l i n h is)) f

pub end : (run : ℕ) (lined : Writing) (place : Place) (l : List ℕ) (i : ℕ) (x : State) → length l ≤ i → Follows run command_cause (all_shown lined place (drop i l)) x x (Ok tt)
unfolding all_shown
end run lined place l i x h = rw (drop_all i l h) done
