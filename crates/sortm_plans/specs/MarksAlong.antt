-- What it comes to, by the mailbox, that messages of a folder get other numbers and their marks go along. Nothing here
-- knows of steps.
use Rattle.std.specs.Prelude.{◌∷◌, [], ℕ, List, Option, None, Some}
use Rattle.mh_sequences.specs.Sequences.{Marked}
use Rattle.message_places.specs.Places.{slots}
use Rattle.message_places.specs.declared.moves.Move.{Move}
use Rattle.opening_plans.specs.Kept.{Commits, Kept, all_made, sequences_kept, too_long}
use Rattle.sortm_plans.specs.Marking.{gone_along}
use Rattle.refile_plans.specs.Rmm.{withdrawn}

-- how it goes on after commits: not at all where a text was too long
abbrev pub unless_too_long : Option ℕ → Kept → (Kept → Commits) → Commits
unless_too_long None k next = next k
unless_too_long (Some l) k next = too_long k l

abbrev pub then_commits : Commits → (Kept → Commits) → Commits
then_commits c next = unless_too_long c.long c.kept next

-- The messages of these numbers come to their slots, which makes this of what is kept. Their marks go along, and so
-- does the current message: the sequences are without those that move, and have them again at their slots. Where none
-- moves nothing is changed.
abbrev pub marks_along : List ℕ → List ℕ → Marked → List ℕ → List Move → (Kept → Kept) → Kept → Commits
marks_along path folder m takes [] moved k = all_made k
marks_along path folder m takes (x ∷ ms) moved k =
    then_commits (sequences_kept path folder m (withdrawn takes m) k)
    (λ l. sequences_kept path folder (withdrawn takes m) (gone_along (x ∷ ms) (slots (x ∷ ms)) m) (moved l))
