-- What `mhstore` tells by what it read and stored, and what shows how it ended.
use Rattle.std.specs.Prelude.{◌≡◌, ◌⊎◌, ◌++◌, ℕ, false, List, [], ◌∷◌, Some, Ok}
use Rattle.std.specs.List.{flat_map}
use Rattle.mh_base.specs.Entries.{entry_text}
use Rattle.mh_base.specs.declared.entry.Entry.TheVariants.{Sequences}
use Rattle.mh_profile.specs.declared.named_value.NamedValue.{NamedValue}
use Rattle.folder_files.specs.Careful.{WasMade}
use Rattle.folder_files.specs.Deeds.{Deed, did, Once}
use Rattle.folder_files.specs.declared.place.Place.{Place}
use Rattle.folder_files.specs.declared.place.Place.TheVariants.{Folder, Work}
use Rattle.folder_files.specs.declared.refusal.Refusal.{Refusal}
use Rattle.folder_files.specs.declared.refusal.Refusal.TheVariants as refusal
use Rattle.folder_files.specs.declared.step.Answer.{Answer}
use Rattle.folder_files.specs.declared.step.Answer.TheVariants.{Done, Exists, Gone, Names}
use Rattle.folder_files.specs.declared.step.Step.TheVariants as step
use Rattle.step_plans.specs.Hands.{temp_name}
use Rattle.step_plans.specs.declared.command_fault.CommandFault.{CommandFault}
use Rattle.step_plans.specs.declared.command_fault.CommandFault.TheVariants as command
use Rattle.opening_plans.specs.Endings.{IsMeddledIn}
use Rattle.opening_plans.specs.Reads.{TellsText}
use Rattle.part_rows.specs.Choices.{first_missing}
use Rattle.part_rows.specs.FileNames.{StoredFile, files_of}
use Rattle.part_rows.specs.PartViews.{parts_of}
use Rattle.part_rows.specs.PathTexts.{path_text}
use Rattle.mhlist_plans.specs.ListAnswers.{AreWhole, IsRefusedByListing, ReadMessage, numbers_in, reading_of}
use Rattle.mhlist_plans.specs.declared.job.ListJob.{ListJob}
use Rattle.mhstore_plans.specs.StorePledge.{HasStoredAs}
use Rattle.mhstore_plans.specs.Storing.{chosen_seen}
use Rattle.mhstore_plans.specs.declared.job.StoreJob.{StoreJob}

-- the same folder, words and parts, as `mhlist` has them
abbrev pub listing_of : StoreJob → ListJob
listing_of job = record { folder = job.folder; specs = job.specs; parts = job.parts; negation = job.negation }

-- the files that the wanted parts of these messages are stored in, one message after another
abbrev pub files_in : List (List ℕ) → List ReadMessage → List StoredFile
files_in wanted messages = flat_map (λ m. files_of m.number wanted m.text) messages

-- the lines of these files
abbrev pub lines_of : List StoredFile → List ℕ
lines_of files = flat_map (λ f. f.line) files

-- the run read each of these messages
abbrev pub AreRead : Place → List ReadMessage → List Deed → Type 0
AreRead place [] own = Unit {0}
AreRead place (m ∷ ms) own = Once (λ d older. d ≡ reading_of place m) own × AreRead place ms own

-- it stored each of these files
abbrev pub AreStored : ℕ → List StoredFile → List Deed → Type 0
AreStored run [] own = Unit {0}
AreStored run (f ∷ fs) own = HasStoredAs run f.name f.content own × AreStored run fs own

-- The run listed the folder and then read its sequences. By these, and by the entries of the context that were read
-- before, the words choose these messages, and behind them those that are left. It has read these messages since; each
-- has all parts that are wanted. Of their files it has stored the first ones, and the others are to come.
pub record HasStored (run : ℕ) (path : List ℕ) (job : StoreJob) (entries : List NamedValue)
    (messages : List ReadMessage)
    (left : List ℕ) (files rest : List StoredFile) (own : List Deed) : Type 0 where
  pub names : List (List ℕ)
  pub text : List ℕ
  pub reading : Deed
  pub newer : List Deed
  pub older : List Deed
  pub seen : own ≡ newer ++ reading ∷ did (step.List (Folder path job.folder)) (Names names) ∷ older
  pub told : TellsText (Folder path job.folder) (entry_text Sequences) text reading
  pub chosen : chosen_seen job names text entries ≡ Ok (numbers_in messages ++ left)
  pub whole : AreWhole job.parts messages
  pub read : AreRead (Folder path job.folder) messages newer
  pub all : files_in job.parts messages ≡ files ++ rest
  pub stored : AreStored run files newer

-- it has read all messages that the words choose and stored all files of them, and this text is their lines
abbrev pub TellsFiles : ℕ → List ℕ → StoreJob → List NamedValue → List ℕ → List Deed → Type 0
TellsFiles run path job entries said own =
    (messages : List ReadMessage)
    × HasStored run path job entries messages [] (files_in job.parts messages) [] own
    × (said ≡ lines_of (files_in job.parts messages))

-- the same of the first of them, while some are to come
pub record TellsFirstFiles (run : ℕ) (path : List ℕ) (job : StoreJob) (entries : List NamedValue) (said : List ℕ)
    (own : List Deed)
    : Type 0 where
  pub messages : List ReadMessage
  pub left : List ℕ
  pub files : List StoredFile
  pub rest : List StoredFile
  pub stored : HasStored run path job entries messages left files rest own
  pub lines : said ≡ lines_of files

-- the newest step read the next of the chosen messages, all files of those before it were stored, and the part that
-- this word names is the first of the wanted ones that it has not
pub record LacksPart (run : ℕ) (path : List ℕ) (job : StoreJob) (entries : List NamedValue) (word : List ℕ)
    (own : List Deed)
    : Type 0 where
  pub messages : List ReadMessage
  pub next : ReadMessage
  pub left : List ℕ
  pub before : List Deed
  pub newest : own ≡ reading_of (Folder path job.folder) next ∷ before
  pub stored : HasStored run path job entries messages (next.number ∷ left) (files_in job.parts messages) [] before
  pub part : List ℕ
  pub missing : first_missing job.parts (parts_of next.text) ≡ Some part
  pub named : word ≡ path_text part

-- the name is that of the next file, the newest steps met a file there and took the run's own away again, and none is
-- to be replaced
pub record MeetsFile (run : ℕ) (path : List ℕ) (job : StoreJob) (entries : List NamedValue) (name : List ℕ)
    (own : List Deed)
    : Type 0 where
  pub messages : List ReadMessage
  pub left : List ℕ
  pub files : List StoredFile
  pub next : StoredFile
  pub rest : List StoredFile
  pub before : List Deed
  pub temp : List ℕ
  pub newest : own ≡ did (step.Unlink Work temp) Done ∷ did (step.Link Work temp name) Exists ∷ before
  pub stored : HasStored run path job entries messages left files (next ∷ rest) before
  pub named : name ≡ next.name
  pub stays : job.clobber ≡ false

-- the newest step shows that others took this name away in the current directory, which the run had made or put there,
-- or made its fresh name, or that the directory is gone
pub data IsMeddledHere (run : ℕ) (x : List ℕ) : List Deed → Type 0 where
  -- its fresh name is taken, or the directory is gone
  fresh_taken : {bytes : List ℕ} {a : Answer} {older : List Deed} → (k : ℕ) → x ≡ temp_name run k
      → (WasMade Work x older → ⊥)
      → (a ≡ Exists) ⊎ (a ≡ Gone) → IsMeddledHere run x (did (step.Create Work x bytes) a ∷ older)
  -- a name that it made is gone, or the directory as it makes safe what it put there last
  met_gone : {own : List Deed} → IsMeddledIn run Work x own → IsMeddledHere run x own

-- what shows each fault of storing files. Want of memory is free.
abbrev pub ShowsStoring : ℕ → CommandFault → List Deed → Type 0
ShowsStoring run (command.Refused r) own = ⊥
ShowsStoring run (command.Faulted which) own = ⊥
ShowsStoring run (command.Locked q) own = ⊥
ShowsStoring run (command.Meddled q x) own = (q ≡ Work) × IsMeddledHere run x own
ShowsStoring run command.Memory own = Unit {0}

-- a part is missing, or a file is there already
abbrev pub IsNoStoring : CommandFault → Type 0
IsNoStoring e =
    ((word : List ℕ) × (e ≡ command.Refused (refusal.NoPart word)))
    ⊎ ((name : List ℕ) × (e ≡ command.Refused (refusal.WouldReplace name)))

-- each refusal of its words is by what it read, and so is that a part is missing, or that a file is there already; of
-- other refusals this says nothing
abbrev pub RefusesStoring : ℕ → List ℕ → StoreJob → List NamedValue → Refusal → List Deed → Type 0
RefusesStoring run path job entries (refusal.BadSwitch place why) own = Unit {0}
RefusesStoring run path job entries (refusal.BadFolder s) own = Unit {0}
RefusesStoring run path job entries (refusal.NoFolder s) own = Unit {0}
RefusesStoring run path job entries (refusal.BadSpec s) own =
    IsRefusedByListing path (listing_of job) entries (refusal.BadSpec s) own
RefusesStoring run path job entries (refusal.Absent s) own =
    IsRefusedByListing path (listing_of job) entries (refusal.Absent s) own
RefusesStoring run path job entries (refusal.EmptyRange s) own =
    IsRefusedByListing path (listing_of job) entries (refusal.EmptyRange s) own
RefusesStoring run path job entries (refusal.EmptySequence s) own =
    IsRefusedByListing path (listing_of job) entries (refusal.EmptySequence s) own
RefusesStoring run path job entries (refusal.BadSequenceName s) own = Unit {0}
RefusesStoring run path job entries (refusal.BadFormat n) own = Unit {0}
RefusesStoring run path job entries (refusal.BadDate s) own = Unit {0}
RefusesStoring run path job entries (refusal.BadExpr n) own = Unit {0}
RefusesStoring run path job entries refusal.NoMatch own = Unit {0}
RefusesStoring run path job entries refusal.NoMail own = Unit {0}
RefusesStoring run path job entries refusal.NotADrop own = Unit {0}
RefusesStoring run path job entries (refusal.SameFolder s) own = Unit {0}
RefusesStoring run path job entries (refusal.Full s) own = Unit {0}
RefusesStoring run path job entries (refusal.BadDraft n) own = Unit {0}
RefusesStoring run path job entries (refusal.NoPart word) own = LacksPart run path job entries word own
RefusesStoring run path job entries (refusal.WouldReplace name) own = MeetsFile run path job entries name own
RefusesStoring run path job entries (refusal.TooLarge l limit) own = Unit {0}
RefusesStoring run path job entries refusal.DropGrown own = Unit {0}
RefusesStoring run path job entries (refusal.NoFile name) own = Unit {0}
RefusesStoring run path job entries refusal.DropChanged own = Unit {0}

-- and so of its faults
abbrev pub ShowsRefused : ℕ → List ℕ → StoreJob → List NamedValue → CommandFault → List Deed → Type 0
ShowsRefused run path job entries (command.Refused r) own = RefusesStoring run path job entries r own
ShowsRefused run path job entries (command.Faulted which) own = Unit {0}
ShowsRefused run path job entries (command.Locked q) own = Unit {0}
ShowsRefused run path job entries (command.Meddled q x) own = Unit {0}
ShowsRefused run path job entries command.Memory own = Unit {0}
