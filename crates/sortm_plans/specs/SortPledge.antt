-- The pledge of `sortm`.
use Rattle.std.specs.Prelude.{◌≡◌, ◌<◌, ◌^◌, ℕ, true, List, Ok}
use Rattle.mh_base.specs.Entries.{kind_of}
use Rattle.mh_base.specs.declared.entry.Entry.TheVariants.{Number}
use Rattle.mh_sequences.specs.Sequences.{Marked}
use Rattle.mh_sequences.specs.declared.run.Run.{Run}
use Rattle.folder_files.specs.Commands.{Sorting}
use Rattle.folder_files.specs.Deeds.{Deed}
use Rattle.folder_files.specs.Named.{is_held}
use Rattle.folder_files.specs.declared.place.Place.TheVariants.{Folder, Mail}
use Rattle.folder_files.specs.declared.step.Step.{Step}
use Rattle.folder_files.specs.declared.step.Step.TheVariants as step
use Rattle.file_plans.specs.Follows.{State}
use Rattle.step_plans.specs.Pledges.{Pledge}
use Rattle.step_plans.specs.Promises.{Promises}
use Rattle.message_places.specs.Places.{slots}
use Rattle.message_places.specs.declared.moves.Move.{Move}
use Rattle.opening_plans.specs.FolderPledge.{folder_pledge, told_within}
use Rattle.opening_plans.specs.Reads.{HaveSeen}
use Rattle.refile_plans.specs.RmmOutcome.{is_among}
use Rattle.refile_plans.specs.RmmPledge.{every_message}
use Rattle.sortm_plans.specs.MovePledge.{MovesMarks, MovesSo, Taking}
use Rattle.sortm_plans.specs.Sort.{chosen_from}
use Rattle.sortm_plans.specs.SortMoves.{HaveRead, moves_by}
use Rattle.sortm_plans.specs.declared.job.SortJob.{SortJob}

-- these are the moves by which the messages that the job's words choose come to stand in order, by what the run read of
-- each of them
pub record AreMoves (run : ℕ) (path : List ℕ) (job : SortJob) (listing : List Run) (m : Marked) (ms : List Move)
    (own : List Deed) : Type 0 where
  pub numbers : List ℕ
  pub chosen : chosen_from job listing m ≡ Ok numbers
  pub texts : List (List ℕ)
  pub read : HaveRead (Folder path job.folder) numbers texts own
  pub moves : ms ≡ moves_by job.key texts numbers

-- the sequences are without the messages that move; or, once each of these has gone to a number, their marks have gone
-- along
abbrev pub MakesMarks : ℕ → List ℕ → SortJob → List Deed → List Run → Marked → Marked → Type 0
MakesMarks run path job own listing m new =
    (ms : List Move) × AreMoves run path job listing m ms own
    × MovesMarks run (Folder path job.folder) (slots ms) ms own m new

-- the slots are the numbers that are taken
abbrev pub TakesSlots : ℕ → List ℕ → SortJob → Taking
TakesSlots run path job listing m numbers own =
    (ms : List Move) × AreMoves run path job listing m ms own × (numbers ≡ slots ms)

-- the job's words choose this number, of the folder as the run has listed and read it
pub record WasChosen (run : ℕ) (path : List ℕ) (job : SortJob) (n : ℕ) (own : List Deed) : Type 0 where
  pub listing : List Run
  pub text : List ℕ
  pub context : List ℕ
  pub seen : HaveSeen run (Folder path job.folder) (Mail path) listing text context own
  pub numbers : List ℕ
  pub chosen : chosen_from job listing (told_within listing text context job.folder) ≡ Ok numbers
  pub one : is_among n numbers ≡ true

-- a number is held aside only where the words choose it
abbrev pub TakesChosen : ℕ → List ℕ → SortJob → List Deed → Step → Type 0
TakesChosen run path job own s =
    (number held : List ℕ) (n : ℕ) → s ≡ step.Rename (Folder path job.folder) number held → kind_of number ≡ Number n
    → is_held (kind_of held) ≡ true → WasChosen run path job n own

-- all that is asked of its steps besides
abbrev pub SortsSo : ℕ → List ℕ → SortJob → List Deed → Step → Type 0
SortsSo run path job own s =
    TakesChosen run path job own s × MovesSo run path job.folder (TakesSlots run path job) own s

-- `sortm` begins the folder and keeps its marks, and lets messages that its words choose change places; it says nothing
abbrev pub sortm_pledge : ℕ → List ℕ → SortJob → Pledge
sortm_pledge run path job =
    folder_pledge run path job.folder (MakesMarks run path job) (Sorting path job.folder every_message) (λ own piece. ⊥)
    (SortsSo run path job)

-- what a call promises of its steps
abbrev pub PromisesSteps : ℕ → List ℕ → SortJob → State → State → Type 0
PromisesSteps run path job x y = run < 2 ^ 128 → Promises (sortm_pledge run path job) x y
