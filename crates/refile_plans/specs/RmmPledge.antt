-- The pledge of `rmm`.
use Rattle.std.specs.Prelude.{◌≡◌, ◌<◌, ◌^◌, ℕ, true, List, Ok}
use Rattle.mh_base.specs.Entries.{kind_of}
use Rattle.mh_base.specs.declared.entry.Entry.TheVariants.{Backup, Number}
use Rattle.mh_sequences.specs.Sequences.{Marked}
use Rattle.mh_sequences.specs.declared.run.Run.{Run}
use Rattle.folder_files.specs.Commands.{Removing}
use Rattle.folder_files.specs.Deeds.{Deed}
use Rattle.folder_files.specs.declared.place.Place.{Place}
use Rattle.folder_files.specs.declared.place.Place.TheVariants.{Folder, Mail}
use Rattle.folder_files.specs.declared.step.Step.{Step}
use Rattle.folder_files.specs.declared.step.Step.TheVariants as step
use Rattle.file_plans.specs.Follows.{State}
use Rattle.step_plans.specs.Pledges.{Pledge}
use Rattle.step_plans.specs.Promises.{Promises}
use Rattle.opening_plans.specs.FolderPledge.{folder_pledge, told_within}
use Rattle.opening_plans.specs.Reads.{HaveSeen}
use Rattle.refile_plans.specs.Rmm.{chosen_from, withdrawn}
use Rattle.refile_plans.specs.RmmOutcome.{is_among}
use Rattle.refile_plans.specs.declared.job.RmmJob.{RmmJob}
use Rattle.mh_base.specs.Numbers.{numbers_up}

-- the sequences are without the messages that the job's words choose
abbrev pub Withdraws : RmmJob → List Run → Marked → Marked → Type 0
Withdraws job listing m new =
    (numbers : List ℕ) × (chosen_from job listing m ≡ Ok numbers) × (new ≡ withdrawn numbers m)

-- all numbers that a message may have
abbrev pub every_message : List ℕ
every_message = numbers_up 1 999999

-- the step takes away what stands at this number of the place: by its backup's name, or by none
abbrev pub Removes : Place → ℕ → Step → Type 0
Removes p n (step.Rename q a b) = (q ≡ p) × (kind_of a ≡ Number n) × (kind_of b ≡ Backup n)
Removes p n (step.Unlink q a) = (q ≡ p) × (kind_of a ≡ Number n)
Removes p n s = ⊥

-- the job's words choose this number, of the folder as the run has listed and read it
pub record WasChosen (run : ℕ) (path : List ℕ) (job : RmmJob) (n : ℕ) (own : List Deed) : Type 0 where
  pub listing : List Run
  pub text : List ℕ
  pub context : List ℕ
  pub seen : HaveSeen run (Folder path job.folder) (Mail path) listing text context own
  pub numbers : List ℕ
  pub chosen : chosen_from job listing (told_within listing text context job.folder) ≡ Ok numbers
  pub one : is_among n numbers ≡ true

-- what it removes was chosen
abbrev pub RemovesChosen : ℕ → List ℕ → RmmJob → List Deed → Step → Type 0
RemovesChosen run path job own s = (n : ℕ) → Removes (Folder path job.folder) n s → WasChosen run path job n own

-- `rmm` begins the folder and keeps its marks, and removes messages that its words chose; it says nothing
abbrev pub rmm_pledge : ℕ → List ℕ → RmmJob → Pledge
rmm_pledge run path job =
    folder_pledge run path job.folder (λ own. Withdraws job) (Removing path job.folder every_message) (λ own piece. ⊥)
    (RemovesChosen run path job)

-- what a call promises of its steps
abbrev pub PromisesSteps : ℕ → List ℕ → RmmJob → State → State → Type 0
PromisesSteps run path job x y = run < 2 ^ 128 → Promises (rmm_pledge run path job) x y
