-- The pledge of `anno`.
use Rattle.std.specs.Prelude.{◌≡◌, ◌⊎◌, ◌++◌, ◌<◌, ◌^◌, ℕ, true, List, Ok}
use Rattle.mh_base.specs.Entries.{kind_of}
use Rattle.mh_base.specs.declared.entry.Entry.TheVariants.{Number}
use Rattle.mh_sequences.specs.declared.run.Run.{Run}
use Rattle.folder_files.specs.Annotations.{are_annotations}
use Rattle.folder_files.specs.Careful.{WasGivenAway, WasReady, WasTaken}
use Rattle.folder_files.specs.Commands.{Annotating, HasReadHeld}
use Rattle.folder_files.specs.Deeds.{Deed}
use Rattle.folder_files.specs.Named.{is_held, is_temp}
use Rattle.folder_files.specs.declared.place.Place.{Place}
use Rattle.folder_files.specs.declared.place.Place.TheVariants.{Folder, Mail}
use Rattle.folder_files.specs.declared.step.Step.{Step}
use Rattle.folder_files.specs.declared.step.Step.TheVariants as step
use Rattle.file_plans.specs.Follows.{State}
use Rattle.step_plans.specs.Pledges.{Pledge}
use Rattle.step_plans.specs.Promises.{Promises}
use Rattle.opening_plans.specs.FolderPledge.{folder_pledge, told_within}
use Rattle.opening_plans.specs.Reads.{HaveSeen}
use Rattle.message_notes.specs.Noted.{HasPutAnew}
use Rattle.refile_plans.specs.RmmOutcome.{is_among}
use Rattle.refile_plans.specs.RmmPledge.{every_message}
use Rattle.refile_plans.specs.RefilePledge.{MakesNothing}
use Rattle.anno_plans.specs.Anno.{chosen_from}
use Rattle.anno_plans.specs.declared.job.AnnoJob.{AnnoJob}

-- the job's words choose this number, of the folder as the run has listed and read it
pub record WasChosen (run : ℕ) (path : List ℕ) (job : AnnoJob) (n : ℕ) (own : List Deed) : Type 0 where
  pub listing : List Run
  pub text : List ℕ
  pub context : List ℕ
  pub seen : HaveSeen run (Folder path job.folder) (Mail path) listing text context own
  pub numbers : List ℕ
  pub chosen : chosen_from job listing (told_within listing text context job.folder) ≡ Ok numbers
  pub one : is_among n numbers ≡ true

-- a number is held aside only where the words choose it
abbrev pub TakesChosen : ℕ → List ℕ → AnnoJob → List Deed → Step → Type 0
TakesChosen run path job own s =
    (number held : List ℕ) (n : ℕ) → s ≡ step.Rename (Folder path job.folder) number held → kind_of number ≡ Number n
    → is_held (kind_of held) ≡ true → WasChosen run path job n own

-- the run took the message of this held name, and then read it and put it anew with the lines in front, and made that
-- safe
pub record WasTakenAndNoted (run : ℕ) (p : Place) (held lines : List ℕ) (own : List Deed) : Type 0 where
  pub anew : HasPutAnew run p held lines own
  pub taken : WasTaken run p held anew.before

-- a held name goes only once its message was given a number, as one that another run left, and that was made safe; or
-- once the run has taken the message and put it anew
abbrev pub LetsGoNoted : ℕ → List ℕ → AnnoJob → List Deed → Step → Type 0
LetsGoNoted run path job own s =
    (held : List ℕ) → s ≡ step.Unlink (Folder path job.folder) held → is_held (kind_of held) ≡ true
    → WasGivenAway (Folder path job.folder) held own ⊎ WasTakenAndNoted run (Folder path job.folder) held job.lines own

-- a new file gets a number only with the lines and then just the bytes of a message that the run holds aside
abbrev pub PutsNoted : ℕ → List ℕ → AnnoJob → List Deed → Step → Type 0
PutsNoted run path job own s =
    (q : Place) (temp number : List ℕ) → s ≡ step.Link q temp number → is_temp (kind_of temp) ≡ true
    → (q ≡ Folder path job.folder)
    × ((bytes : List ℕ) × HasReadHeld q bytes own × WasReady q temp (job.lines ++ bytes) own)

-- all that is asked of its steps besides
abbrev pub NotesSo : ℕ → List ℕ → AnnoJob → List Deed → Step → Type 0
NotesSo run path job own s =
    TakesChosen run path job own s × LetsGoNoted run path job own s × PutsNoted run path job own s

-- `anno` begins the folder and keeps its marks, and puts the lines in front of messages that its words choose; it says
-- nothing
abbrev pub anno_pledge : ℕ → List ℕ → AnnoJob → Pledge
anno_pledge run path job =
    folder_pledge run path job.folder MakesNothing (Annotating path job.folder every_message job.lines) (λ own piece. ⊥)
    (NotesSo run path job)

-- what a call promises of its steps, where its lines are such lines
abbrev pub PromisesSteps : ℕ → List ℕ → AnnoJob → State → State → Type 0
PromisesSteps run path job x y =
    run < 2 ^ 128 → are_annotations job.lines ≡ true → Promises (anno_pledge run path job) x y
