-- What `rmm` answers by what it read of its folder, and what it has done that is done.
use Rattle.std.specs.Prelude.{◌≡◌, ℕ, true, List, Ok, Err}
use Rattle.mh_sequences.specs.declared.run.Run.{Run}
use Rattle.folder_files.specs.Deeds.{Deed, did, Once}
use Rattle.folder_files.specs.declared.place.Place.{Place}
use Rattle.folder_files.specs.declared.place.Place.TheVariants.{Folder, Mail}
use Rattle.folder_files.specs.declared.step.Answer.TheVariants.{Done}
use Rattle.folder_files.specs.declared.step.Step.{Step}
use Rattle.folder_files.specs.declared.step.Step.TheVariants.{SyncFolder}
use Rattle.step_plans.specs.declared.command_fault.CommandFault.TheVariants.{Refused}
use Rattle.opening_plans.specs.Endings.{Answering}
use Rattle.opening_plans.specs.FolderPledge.{told_within}
use Rattle.opening_plans.specs.Reads.{HaveSeen}
use Rattle.refile_plans.specs.Rmm.{chosen_from}
use Rattle.refile_plans.specs.RmmOutcome.{is_among}
use Rattle.refile_plans.specs.RmmPledge.{Removes, Withdraws}
use Rattle.refile_plans.specs.declared.job.RmmJob.{RmmJob}

-- the sequences are without the messages that the job's words choose; or the first word that chooses none refuses
abbrev pub rmm_answers : RmmJob → Answering
rmm_answers job = record {
  makes = Withdraws job;
  refuses = λ listing m r. chosen_from job listing m ≡ Err (Refused r);
}

-- the run took away what stood at this number of the place
abbrev pub HasTaken : Place → ℕ → List Deed → Type 0
HasTaken p n own = Once (λ d older. (s : Step) × Removes p n s × (d ≡ did s Done)) own

-- and made the place safe after that
abbrev pub HasRemoved : Place → ℕ → List Deed → Type 0
HasRemoved p n own = Once (λ d older. (d ≡ did (SyncFolder p) Done) × HasTaken p n older) own

-- the run listed the folder and read its sequences and then the context; by these the job's words choose messages, and
-- it removed each of them
pub record HasRemovedChosen (run : ℕ) (path : List ℕ) (job : RmmJob) (own : List Deed) : Type 0 where
  pub listing : List Run
  pub text : List ℕ
  pub context : List ℕ
  pub seen : HaveSeen run (Folder path job.folder) (Mail path) listing text context own
  pub numbers : List ℕ
  pub chosen : chosen_from job listing (told_within listing text context job.folder) ≡ Ok numbers
  pub removed : (n : ℕ) → is_among n numbers ≡ true → HasRemoved (Folder path job.folder) n own
