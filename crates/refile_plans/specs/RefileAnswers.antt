-- What `refile` answers by what it read of its folders, and what shows how it ended: its run's own deeds in the call,
-- the newest first.
use Rattle.std.specs.Prelude.{◌≡◌, ◌⊎◌, ◌<◌, ◌+◌, ◌∷◌, ℕ, true, false, length, List, Ok, Err, Contains}
use Rattle.mh_sequences.specs.declared.run.Run.{Run}
use Rattle.folder_files.specs.Deeds.{Deed, WasDone, did}
use Rattle.folder_files.specs.declared.place.Place.TheVariants.{Folder, Mail}
use Rattle.folder_files.specs.declared.refusal.Refusal.TheVariants as refusal
use Rattle.folder_files.specs.declared.step.Answer.{Answer}
use Rattle.folder_files.specs.declared.step.Answer.TheVariants.{Long}
use Rattle.folder_files.specs.declared.step.Step.TheVariants.{Lock, Read, Unlock}
use Rattle.file_plans.specs.Sightings.{IsFailed, Made}
use Rattle.step_plans.specs.ContextCommit.{LIMIT_BYTES}
use Rattle.step_plans.specs.declared.command_fault.CommandFault.{CommandFault}
use Rattle.step_plans.specs.declared.command_fault.CommandFault.TheVariants as fault
use Rattle.message_puts.specs.Stored.{HasMetAt}
use Rattle.message_moves.specs.Copying.{highest_of}
use Rattle.opening_plans.specs.Endings.{Answering, IsGoneOnceMade, ShowsEnd}
use Rattle.opening_plans.specs.FolderPledge.{told_within}
use Rattle.opening_plans.specs.Reads.{HaveSeen}
use Rattle.refile_plans.specs.Refile.{greatest_of, names_source, refile_chosen}
use Rattle.refile_plans.specs.RefilePledge.{WasChosen, destinations_of, name_read}
use Rattle.refile_plans.specs.Rmm.{withdrawn}
use Rattle.refile_plans.specs.declared.job.RefileJob.{RefileJob}

-- where messages leave, the sequences of the source are without those that the job's words choose; or the first word
-- that chooses none refuses
abbrev pub source_answers : RefileJob → Answering
source_answers job = record {
  makes = λ listing m new. (job.link ≡ false) × (numbers : List ℕ) × (refile_chosen job listing m ≡ Ok numbers)
      × (new ≡ withdrawn numbers m);
  refuses = λ listing m r. refile_chosen job listing m ≡ Err (fault.Refused r);
}

-- the sequences of a destination stay, but for what the reading cuts, and no word is refused there
abbrev pub target_answers : Answering
target_answers = record { makes = λ listing m new. ⊥; refuses = λ listing m r. ⊥ }

-- what shows a fault of a destination: that of a folder that is begun, or it isn't there any more once the run had made
-- it or found it made
pub record ShowsTarget (run : ℕ) (path : List ℕ) (job : RefileJob) (e : CommandFault) (own : List Deed) : Type 0 where
  pub target : List ℕ
  pub is_one : Contains (destinations_of job) target
  pub shows : ShowsEnd run path target target_answers e own ⊎ IsGoneOnceMade (Folder path target) e own

-- the job's words choose these numbers, of the source as the run has listed and read it
pub record HaveChosen (run : ℕ) (path : List ℕ) (job : RefileJob) (numbers : List ℕ) (own : List Deed) : Type 0 where
  pub listing : List Run
  pub text : List ℕ
  pub context : List ℕ
  pub seen : HaveSeen run (Folder path job.source) (Mail path) listing text context own
  pub chosen : refile_chosen job listing (told_within listing text context job.source) ≡ Ok numbers

-- what shows that the messages that the words choose can't go where they are to
pub data ShowsMoves (run : ℕ) (path : List ℕ) (job : RefileJob) : CommandFault → List Deed → Type 0 where
  -- the words name the source as a folder for its own messages to go to
  same_folder : {numbers : List ℕ} {own : List Deed} → HaveChosen run path job numbers own → names_source job ≡ true
      → ShowsMoves run path job (fault.Refused (refusal.SameFolder job.source)) own
  -- above the greatest number that the run listed in a destination so many are not left
  no_room : {target text context : List ℕ} {listing : List Run} {numbers : List ℕ} {own : List Deed}
      → Contains (destinations_of job) target → HaveSeen run (Folder path target) (Mail path) listing text context own
      → HaveChosen run path job numbers own → 999999 < highest_of (greatest_of listing) + length numbers
      → ShowsMoves run path job (fault.Refused (refusal.Full target)) own
  -- the run put a message at the last number there, or met one
  none_left : {target : List ℕ} {own : List Deed} → Contains (destinations_of job) target
      → HasMetAt (Folder path target) 999999 own → ShowsMoves run path job (fault.Refused (refusal.Full target)) own
  -- a message that the words choose was just read, and is too long, with this length
  long_message : {n l : ℕ} {older : List Deed} → WasChosen run path job n older
      → ShowsMoves run path job (fault.Refused (refusal.TooLarge l LIMIT_BYTES))
      (did (Read (Folder path job.source) (name_read job.link run n) LIMIT_BYTES) (Long l) ∷ older)

-- what shows each fault of `refile` on its folders
abbrev pub ShowsRefile : ℕ → List ℕ → RefileJob → CommandFault → List Deed → Type 0
ShowsRefile run path job e own =
    ShowsEnd run path job.source (source_answers job) e own
    ⊎ (ShowsTarget run path job e own ⊎ ShowsMoves run path job e own)

-- These deeds show it, and no step of them failed. Where the run then let folders go that it had locked, those were its
-- last steps, whatever they were answered.
pub data IsShownFirst (S : List Deed → Type 0) : List Deed → Type 0 where
  none_let_go : {own : List Deed} → S own → (Made IsFailed own → ⊥) → IsShownFirst S own
  one_let_go : {path folder : List ℕ} {a : Answer} {own : List Deed} → IsShownFirst S own
      → WasDone (Lock (Folder path folder)) own → IsShownFirst S (did (Unlock (Folder path folder)) a ∷ own)

-- how a command ends by a fault that is shown so: at a refusal, and where another run has a lock, it may let its
-- folders go then
abbrev pub IsEndedFirst : (CommandFault → List Deed → Type 0) → CommandFault → List Deed → Type 0
IsEndedFirst S (fault.Refused r) own = IsShownFirst (S (fault.Refused r)) own
IsEndedFirst S (fault.Faulted which) own = ⊥
IsEndedFirst S (fault.Locked q) own = IsShownFirst (S (fault.Locked q)) own
IsEndedFirst S (fault.Meddled q x) own = S (fault.Meddled q x) own × (Made IsFailed own → ⊥)
IsEndedFirst S fault.Memory own = Unit {0}
