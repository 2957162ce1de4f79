-- The pledge of `mhstore`.
use Rattle.std.specs.Prelude.{◌≡◌, ◌⊎◌, ◌++◌, ◌<◌, ◌^◌, ℕ, true, List, ◌∷◌}
use Rattle.mh_base.specs.Entries.{entry_text, kind_of}
use Rattle.mh_base.specs.declared.entry.Entry.TheVariants.{Number}
use Rattle.folder_files.specs.Careful.{IsRead, WasReady}
use Rattle.folder_files.specs.Commands.{Storing}
use Rattle.folder_files.specs.Deeds.{Deed, did, Once}
use Rattle.folder_files.specs.Named.{is_temp_of, is_work}
use Rattle.folder_files.specs.declared.place.Place.TheVariants.{Folder, Work}
use Rattle.folder_files.specs.declared.step.Answer.TheVariants.{Done}
use Rattle.folder_files.specs.declared.step.Step.{Step}
use Rattle.folder_files.specs.declared.step.Step.TheVariants as step
use Rattle.file_plans.specs.Follows.{State}
use Rattle.step_plans.specs.ContextPledge.{MarksContext}
use Rattle.step_plans.specs.Pledges.{Pledge}
use Rattle.step_plans.specs.Promises.{Promises}
use Rattle.command_stages.specs.Current.{current_change}
use Rattle.mh_looks.specs.ScanPledge.{HasListed}
use Rattle.part_rows.specs.FileNames.{StoredFile, files_of}
use Rattle.mhstore_plans.specs.declared.job.StoreJob.{StoreJob}

-- it is one of these
abbrev pub IsAmong : {A : Type 0} → List A → A → Type 0
IsAmong {A} xs x = (before : List A) × ((after : List A) × (xs ≡ before ++ x ∷ after))

-- the run read a message of the folder, and the file is one of those that its wanted parts are stored in
pub record IsPartRead (path : List ℕ) (job : StoreJob) (f : StoredFile) (own : List Deed) : Type 0 where
  pub number : ℕ
  pub message : List ℕ
  pub read : Once (λ d older. IsRead (Folder path job.folder) (entry_text (Number number)) message d) own
  pub among : IsAmong (files_of number job.parts message) f

-- the name is such a file's, and the other one leads to its bytes, which the run has made safe there
pub record IsReadyPart (path : List ℕ) (job : StoreJob) (temp name : List ℕ) (own : List Deed) : Type 0 where
  pub file : StoredFile
  pub part : IsPartRead path job file own
  pub named : name ≡ file.name
  pub ready : WasReady Work temp file.content own

-- what leads to new names in the current directory is such a file; one that stands there is replaced where the job says
-- so alone
abbrev pub StoresPart : List ℕ → StoreJob → List Deed → Step → Type 0
StoresPart path job own (step.List p) = Unit {0}
StoresPart path job own (step.Read p n limit) = Unit {0}
StoresPart path job own (step.MakeFolder p) = Unit {0}
StoresPart path job own (step.Create p n b) = Unit {0}
StoresPart path job own (step.SyncFile p n) = Unit {0}
StoresPart path job own (step.SyncFolder p) = Unit {0}
StoresPart path job own (step.Link p temp name) = IsReadyPart path job temp name own
StoresPart path job own (step.Rename p temp name) =
    is_work p ≡ true → (job.clobber ≡ true) × IsReadyPart path job temp name own
StoresPart path job own (step.Unlink p a) = Unit {0}
StoresPart path job own (step.Lock p) = Unit {0}
StoresPart path job own (step.Unlock p) = Unit {0}
StoresPart path job own (step.ReadFile f limit) = Unit {0}
StoresPart path job own (step.ReadDrop f from most) = Unit {0}
StoresPart path job own (step.CutDrop f length_) = Unit {0}

-- the deed gave this name in the current directory to a file of the run, which it had made with these bytes and made
-- safe
pub record IsStoredAs (run : ℕ) (name bytes : List ℕ) (d : Deed) (older : List Deed) : Type 0 where
  pub temp : List ℕ
  pub is_own : is_temp_of run (kind_of temp) ≡ true
  pub gave : (d ≡ did (step.Link Work temp name) Done) ⊎ (d ≡ did (step.Rename Work temp name) Done)
  pub ready : WasReady Work temp bytes older

-- and then the run made the directory safe
abbrev pub HasStoredAs : ℕ → List ℕ → List ℕ → List Deed → Type 0
HasStoredAs run name bytes own =
    Once (λ d older. (d ≡ did (step.SyncFolder Work) Done) × Once (IsStoredAs run name bytes) older) own

-- it says lines of files of parts that it has stored
pub record TellsStored (run : ℕ) (path : List ℕ) (job : StoreJob) (own : List Deed) (piece : List ℕ) : Type 0 where
  pub file : StoredFile
  pub part : IsPartRead path job file own
  pub line : piece ≡ file.line
  pub stored : HasStoredAs run file.name file.content own

-- it stores parts of messages that it read, tells of what is stored, and changes nothing else but the current folder,
-- which becomes the one that it listed
abbrev pub store_pledge : ℕ → List ℕ → StoreJob → Pledge
store_pledge run path job = record {
  run = run;
  manner = Storing path;
  may_mark = λ own p name old text. HasListed (Folder path job.folder) own
      × MarksContext path (current_change job.folder) p name old text;
  may_tell = TellsStored run path job;
  may_step = StoresPart path job;
}

-- what a call promises of its steps
abbrev pub PromisesSteps : ℕ → List ℕ → StoreJob → State → State → Type 0
PromisesSteps run path job x y = run < 2 ^ 128 → Promises (store_pledge run path job) x y
