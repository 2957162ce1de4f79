-- What `anno` answers by what it read of its folder, and what shows how it ended: its run's own deeds in the call, the
-- newest first.
use Rattle.std.specs.Prelude.{◌≡◌, ◌⊎◌, ◌++◌, ◌∷◌, ℕ, true, List, length, nat_lt, Err}
use Rattle.mh_base.specs.Entries.{entry_text}
use Rattle.mh_base.specs.declared.entry.Entry.TheVariants.{Held}
use Rattle.mh_sequences.specs.Runs.{has}
use Rattle.mh_sequences.specs.declared.run.Run.{Run}
use Rattle.folder_files.specs.Deeds.{Deed, did}
use Rattle.folder_files.specs.declared.place.Place.TheVariants.{Folder, Mail}
use Rattle.folder_files.specs.declared.refusal.Refusal.TheVariants as refusal
use Rattle.folder_files.specs.declared.step.Answer.TheVariants.{Content, Done, Gone, Long}
use Rattle.folder_files.specs.declared.step.Step.TheVariants.{Read, SyncFolder, Unlink}
use Rattle.step_plans.specs.ContextCommit.{LIMIT_BYTES}
use Rattle.step_plans.specs.declared.command_fault.CommandFault.{CommandFault}
use Rattle.step_plans.specs.declared.command_fault.CommandFault.TheVariants as fault
use Rattle.message_puts.specs.Stored.{HasMetAt}
use Rattle.opening_plans.specs.Endings.{Answering, ShowsEnd}
use Rattle.opening_plans.specs.Reads.{HaveSeen}
use Rattle.anno_plans.specs.Anno.{chosen_from}
use Rattle.anno_plans.specs.AnnoPledge.{WasChosen}
use Rattle.anno_plans.specs.declared.job.AnnoJob.{AnnoJob}

-- the sequences stay, but for what the reading cuts; or the first word that chooses none refuses
abbrev pub anno_answers : AnnoJob → Answering
anno_answers job =
    record { makes = λ listing m new. ⊥; refuses = λ listing m r. chosen_from job listing m ≡ Err (fault.Refused r) }

-- what shows that a chosen message can't get the lines
pub data ShowsNotes (run : ℕ) (path : List ℕ) (job : AnnoJob) : CommandFault → List Deed → Type 0 where
  -- the run listed a message at the last number
  none_left : {listing : List Run} {text context : List ℕ} {own : List Deed}
      → HaveSeen run (Folder path job.folder) (Mail path) listing text context own → has listing 999999 ≡ true
      → ShowsNotes run path job (fault.Refused (refusal.Full job.folder)) own
  -- it put one there, or met one
  none_met : {own : List Deed} → HasMetAt (Folder path job.folder) 999999 own
      → ShowsNotes run path job (fault.Refused (refusal.Full job.folder)) own
  -- a message that the words choose was just read, and is too long, with this length
  long_message : {n l : ℕ} {older : List Deed} → WasChosen run path job n older
      → ShowsNotes run path job (fault.Refused (refusal.TooLarge l LIMIT_BYTES))
      (did (Read (Folder path job.folder) (entry_text (Held run n)) LIMIT_BYTES) (Long l) ∷ older)
  -- one was just read, and is too long with the lines
  long_lines : {n : ℕ} {bytes : List ℕ} {older : List Deed} → WasChosen run path job n older
      → nat_lt LIMIT_BYTES (length (job.lines ++ bytes)) ≡ true
      → ShowsNotes run path job (fault.Refused (refusal.TooLarge (length (job.lines ++ bytes)) LIMIT_BYTES))
      (did (Read (Folder path job.folder) (entry_text (Held run n)) LIMIT_BYTES) (Content bytes) ∷ older)
  -- one was just let go, and the folder is gone as the run makes that safe
  let_go_gone : (n : ℕ) {older : List Deed}
      → ShowsNotes run path job (fault.Meddled (Folder path job.folder) (entry_text (Held run n)))
      (did (SyncFolder (Folder path job.folder)) Gone
      ∷ did (Unlink (Folder path job.folder) (entry_text (Held run n))) Done ∷ older)

-- what shows each fault of `anno`
abbrev pub ShowsAnno : ℕ → List ℕ → AnnoJob → CommandFault → List Deed → Type 0
ShowsAnno run path job e own = ShowsEnd run path job.folder (anno_answers job) e own ⊎ ShowsNotes run path job e own
