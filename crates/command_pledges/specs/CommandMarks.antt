-- What each command keeps of the marks of messages, by its name.
use Rattle.std.specs.Prelude.{◌≡◌, ℕ, true, List, Option, None, Some}
use Rattle.std.specs.Str.{all_scalars}
use Rattle.folder_files.specs.Deeds.{Deed}
use Rattle.folder_files.specs.Histories.{past_of}
use Rattle.folder_files.specs.Story.{Story}
use Rattle.folder_files.specs.declared.event.Event.{Event}
use Rattle.folder_files.specs.declared.step.Step.{Step}
use Rattle.step_plans.specs.Safety.{AtSteps}
use Rattle.sequence_marks.specs.KeepsSequences.{KeepsSequences}
use Rattle.sequence_marks.specs.KeepsSequencesOf.{KeepsSequencesOf, SequencesStaySoundOf}
use Rattle.refile_plans.specs.HeldLeft.{RemovesUnheld}
use Rattle.refile_plans.specs.RefileHeld.{TakesUnheld}
use Rattle.command_plans.specs.declared.name.CommandName.{CommandName}
use Rattle.command_plans.specs.declared.name.CommandName.TheVariants.{Anno, Folder as FolderCommand, Inc, Mark, Mhbuild, Mhlist, Mhstore, Pick, Refile, Rmm, Scan, Sortm}

-- the name is a text of characters
abbrev pub IsTextName : List ℕ → Type 0
IsTextName folder = all_scalars folder ≡ true

-- each step of the run was so, after its deeds
abbrev pub AreAllSo : (List Deed → Step → Type 0) → ℕ → List Event → Type 0
AreAllSo So run past = AtSteps (λ r. r ≡ run) (λ r own s. So own s) past

-- then the marks of sequences stay sound, where a story is told
abbrev pub KeepsWhere : (List Deed → Step → Type 0) → ℕ → Option Story → Option Story → Type 0
KeepsWhere So run None None = Unit {0}
KeepsWhere So run (Some old) (Some new) =
    AreAllSo So run (past_of new.history) → SequencesStaySoundOf IsTextName run old new
KeepsWhere So run None (Some new) = ⊥
KeepsWhere So run (Some old) None = ⊥

-- `scan` and `mhbuild` keep all, whatever a folder is called; `inc`, `mark`, `pick`, `folder`, `sortm`, `mhlist` and
-- `mhstore` those of folders whose names are texts; and so do `rmm`, `refile` and `anno` where, whenever the run took a
-- message from its number, each held name that it had listed in that folder was let go before
abbrev pub KeepsCommandMarks : Option CommandName → ℕ → Option Story → Option Story → Type 0
KeepsCommandMarks None run old new = KeepsSequences run old new
KeepsCommandMarks (Some Inc) run old new = KeepsSequencesOf IsTextName run old new
KeepsCommandMarks (Some Scan) run old new = KeepsSequences run old new
KeepsCommandMarks (Some Mark) run old new = KeepsSequencesOf IsTextName run old new
KeepsCommandMarks (Some Pick) run old new = KeepsSequencesOf IsTextName run old new
KeepsCommandMarks (Some Refile) run old new = KeepsWhere TakesUnheld run old new
KeepsCommandMarks (Some Rmm) run old new = KeepsWhere RemovesUnheld run old new
KeepsCommandMarks (Some FolderCommand) run old new = KeepsSequencesOf IsTextName run old new
KeepsCommandMarks (Some Anno) run old new = KeepsWhere TakesUnheld run old new
KeepsCommandMarks (Some Sortm) run old new = KeepsSequencesOf IsTextName run old new
KeepsCommandMarks (Some Mhlist) run old new = KeepsSequencesOf IsTextName run old new
KeepsCommandMarks (Some Mhstore) run old new = KeepsSequencesOf IsTextName run old new
KeepsCommandMarks (Some Mhbuild) run old new = KeepsSequences run old new
