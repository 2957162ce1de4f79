-- What `sortm` answers by what it read of its folder, and what shows how it ended: its run's own deeds in the call, the
-- newest first.
use Rattle.std.specs.Prelude.{◌≡◌, ◌⊎◌, ◌++◌, ◌∷◌, ℕ, List, Ok, Err}
use Rattle.mh_base.specs.Entries.{entry_text}
use Rattle.mh_base.specs.declared.entry.Entry.TheVariants.{Number}
use Rattle.mh_sequences.specs.declared.run.Run.{Run}
use Rattle.folder_files.specs.Deeds.{Deed, did}
use Rattle.folder_files.specs.declared.place.Place.TheVariants.{Folder, Mail}
use Rattle.folder_files.specs.declared.refusal.Refusal.TheVariants as refusal
use Rattle.folder_files.specs.declared.step.Answer.TheVariants.{Long}
use Rattle.folder_files.specs.declared.step.Step.TheVariants.{Read}
use Rattle.step_plans.specs.ContextCommit.{LIMIT_BYTES}
use Rattle.step_plans.specs.declared.command_fault.CommandFault.{CommandFault}
use Rattle.step_plans.specs.declared.command_fault.CommandFault.TheVariants as fault
use Rattle.opening_plans.specs.Endings.{Answering, ShowsEnd}
use Rattle.opening_plans.specs.FolderPledge.{told_within}
use Rattle.opening_plans.specs.Reads.{HaveSeen}
use Rattle.sortm_plans.specs.MovesAnswers.{ShowsMoves}
use Rattle.sortm_plans.specs.Sort.{chosen_from}
use Rattle.sortm_plans.specs.SortMoves.{HaveRead}
use Rattle.sortm_plans.specs.SortPledge.{MakesMarks}
use Rattle.sortm_plans.specs.declared.job.SortJob.{SortJob}

-- by the listing and the texts alone the sequences stay, but for what the reading cuts; or the first word that chooses
-- none refuses
abbrev pub sort_answers : SortJob → Answering
sort_answers job =
    record { makes = λ listing m new. ⊥; refuses = λ listing m r. chosen_from job listing m ≡ Err (fault.Refused r) }

-- the job's words choose this number, of the folder as the run has listed and read it, and it has read the messages
-- that they choose before it
pub record IsNextRead (run : ℕ) (path : List ℕ) (job : SortJob) (n : ℕ) (own : List Deed) : Type 0 where
  pub listing : List Run
  pub text : List ℕ
  pub context : List ℕ
  pub seen : HaveSeen run (Folder path job.folder) (Mail path) listing text context own
  pub before : List ℕ
  pub rest : List ℕ
  pub chosen : chosen_from job listing (told_within listing text context job.folder) ≡ Ok (before ++ n ∷ rest)
  pub texts : List (List ℕ)
  pub read : HaveRead (Folder path job.folder) before texts own

-- what shows that chosen messages can't be put in order
pub data ShowsOrder (run : ℕ) (path : List ℕ) (job : SortJob) : CommandFault → List Deed → Type 0 where
  -- a message that the words choose was just read, and is too long, with this length
  long_message : {n l : ℕ} {older : List Deed} → IsNextRead run path job n older
      → ShowsOrder run path job (fault.Refused (refusal.TooLarge l LIMIT_BYTES))
      (did (Read (Folder path job.folder) (entry_text (Number n)) LIMIT_BYTES) (Long l) ∷ older)
  -- those that are to move can't get other numbers
  none_moved : {e : CommandFault} {own : List Deed} → ShowsMoves run path job.folder (MakesMarks run path job) e own
      → ShowsOrder run path job e own

-- what shows each fault of `sortm`
abbrev pub ShowsSort : ℕ → List ℕ → SortJob → CommandFault → List Deed → Type 0
ShowsSort run path job e own = ShowsEnd run path job.folder (sort_answers job) e own ⊎ ShowsOrder run path job e own
