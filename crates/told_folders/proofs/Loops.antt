-- Items of a list, one after another.
use Rattle.std.proofs.Common.{◌≡◌, ◌++◌, ℕ, ◌+◌, ◌<◌, ◌≤◌, List, Result, Ok, sym, ◌∙◌, ap, drop, get_or, length, append-nil}
use Rattle.std.specs.Prelude.{map}
use Rattle.std.proofs.lemmas.List.{drop_all}
use Rattle.file_plans.specs.Plan.{◌>>=◌, lifted, say}
use Rattle.file_plans.specs.Follows.{State, Follows}
use Rattle.file_plans.proofs.Following.{done, same_plan}
use Rattle.step_plans.specs.CommandFaults.{command_cause, of_sink}
use Rattle.step_plans.specs.declared.command_fault.CommandFault.{CommandFault}
use Rattle.step_plans.proofs.Rounds.{next}
use Rattle.told_folders.specs.Plans.{lines_said}

-- something is made of each item
pub all_made : {A B : Type 0} (f : A → B) (items : List A) (i : ℕ) (now all : List B) → length items ≤ i → now ++ map f (drop i items) ≡ all → now ≡ all
all_made f items i now all h left = sym (append-nil now) ∙ (ap (λ l. now ++ map f l) (sym (drop_all i items h)) ∙ left)

-- lines are said
pub turn : (run : ℕ) (l : List (List ℕ)) (i : ℕ) (line : List ℕ) (x y : State) (r : Result Unit CommandFault) → i < length l → line ≡ get_or l i line
    → Follows run command_cause (lifted of_sink (say line) >>= λ u. lines_said (drop (i + 1) l)) x y r → Follows run command_cause (lines_said (drop i l)) x y r
unfolding lines_said
turn run l i line x y r h is f = same_plan _ _ (ap lines_said (next l i line h is)) f

pub end : (run : ℕ) (l : List (List ℕ)) (i : ℕ) (x : State) → length l ≤ i → Follows run command_cause (lines_said (drop i l)) x x (Ok tt)
unfolding lines_said
end run l i x h = rw (drop_all i l h) done
