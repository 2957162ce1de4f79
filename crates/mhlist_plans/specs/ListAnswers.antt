-- What `mhlist` tells by what it read, and what shows how it ended.
use Rattle.std.specs.Prelude.{◌≡◌, ◌++◌, ℕ, List, [], ◌∷◌, map, None, Some, Ok, Err}
use Rattle.std.specs.List.{flat_map}
use Rattle.mh_base.specs.Entries.{entry_text}
use Rattle.mh_base.specs.declared.entry.Entry.TheVariants.{Number, Sequences}
use Rattle.mh_profile.specs.declared.named_value.NamedValue.{NamedValue}
use Rattle.folder_files.specs.Deeds.{Deed, did}
use Rattle.folder_files.specs.declared.place.Place.{Place}
use Rattle.folder_files.specs.declared.place.Place.TheVariants.{Folder}
use Rattle.folder_files.specs.declared.refusal.Refusal.{Refusal}
use Rattle.folder_files.specs.declared.refusal.Refusal.TheVariants as refusal
use Rattle.folder_files.specs.declared.step.Answer.TheVariants.{Content, Names}
use Rattle.folder_files.specs.declared.step.Step.TheVariants.{List as Lists, Read}
use Rattle.step_plans.specs.ContextCommit.{LIMIT_BYTES}
use Rattle.step_plans.specs.declared.command_fault.CommandFault.{CommandFault}
use Rattle.step_plans.specs.declared.command_fault.CommandFault.TheVariants as command
use Rattle.opening_plans.specs.Reads.{TellsText}
use Rattle.told_folders.specs.Outcomes.{joined}
use Rattle.part_rows.specs.Choices.{first_missing}
use Rattle.part_rows.specs.PartViews.{parts_of}
use Rattle.part_rows.specs.PathTexts.{path_text}
use Rattle.part_rows.specs.Rows.{header, rows_of}
use Rattle.mhlist_plans.specs.Listing.{chosen_seen}
use Rattle.mhlist_plans.specs.declared.job.ListJob.{ListJob}

-- a message as it was read
pub record ReadMessage : Type 0 where
  pub number : ℕ
  pub text : List ℕ

abbrev pub numbers_in : List ReadMessage → List ℕ
numbers_in messages = map (λ m. m.number) messages

-- the deed that read the message
abbrev pub reading_of : Place → ReadMessage → Deed
reading_of place m = did (Read place (entry_text (Number m.number)) LIMIT_BYTES) (Content m.text)

-- the deeds after these messages were read, one after another
abbrev pub after_reading : Place → List ReadMessage → List Deed → List Deed
after_reading place [] own = own
after_reading place (m ∷ ms) own = after_reading place ms (reading_of place m ∷ own)

-- a message that was read has all parts that are wanted
abbrev pub IsWhole : List (List ℕ) → List ℕ → Type 0
IsWhole wanted text = first_missing wanted (parts_of text) ≡ None

-- each of these has
abbrev pub AreWhole : List (List ℕ) → List ReadMessage → Type 0
AreWhole wanted [] = Unit {0}
AreWhole wanted (m ∷ ms) = IsWhole wanted m.text × AreWhole wanted ms

-- the line above the rows, and then the rows of these messages
abbrev pub told_of : List (List ℕ) → List ReadMessage → List ℕ
told_of wanted messages = header ++ flat_map (λ m. joined (rows_of m.number wanted m.text)) messages

-- The newest steps listed the folder, read its sequences, and then read these messages, one after another. By the
-- listing and the sequences, and by the entries of the context that were read before, the job's words choose these
-- messages, and behind them those that are left. Each message that was read has all parts that are wanted.
pub record HasJustRead (path : List ℕ) (job : ListJob) (entries : List NamedValue) (messages : List ReadMessage)
    (left : List ℕ)
    (own : List Deed) : Type 0 where
  pub names : List (List ℕ)
  pub text : List ℕ
  pub reading : Deed
  pub older : List Deed
  pub seen :
      own
      ≡ after_reading (Folder path job.folder) messages
      (reading ∷ did (Lists (Folder path job.folder)) (Names names) ∷ older)
  pub told : TellsText (Folder path job.folder) (entry_text Sequences) text reading
  pub chosen : chosen_seen job names text entries ≡ Ok (numbers_in messages ++ left)
  pub whole : AreWhole job.parts messages

-- up to some step they did so
pub record HasRead (path : List ℕ) (job : ListJob) (entries : List NamedValue) (messages : List ReadMessage)
    (left : List ℕ)
    (own : List Deed) : Type 0 where
  pub newer : List Deed
  pub before : List Deed
  pub seen : own ≡ newer ++ before
  pub just : HasJustRead path job entries messages left before

-- the run read all messages that the words choose, and this text is the line above the rows with the rows of all of
-- them
abbrev pub TellsRows : List ℕ → ListJob → List NamedValue → List ℕ → List Deed → Type 0
TellsRows path job entries said own =
    (messages : List ReadMessage) × HasRead path job entries messages [] own × (said ≡ told_of job.parts messages)

-- the same of the first of them, while some may be left
abbrev pub TellsFirstRows : List ℕ → ListJob → List NamedValue → List ℕ → List Deed → Type 0
TellsFirstRows path job entries said own =
    (messages : List ReadMessage)
    × ((left : List ℕ) × HasRead path job entries messages left own × (said ≡ told_of job.parts messages))

-- the newest two steps listed the folder and read its sequences; by these, and by the entries of the context that were
-- read before, the job's words are refused so
pub record IsRefusedByListing (path : List ℕ) (job : ListJob) (entries : List NamedValue) (r : Refusal)
    (own : List Deed)
    : Type 0 where
  pub names : List (List ℕ)
  pub text : List ℕ
  pub reading : Deed
  pub older : List Deed
  pub newest : own ≡ reading ∷ did (Lists (Folder path job.folder)) (Names names) ∷ older
  pub told : TellsText (Folder path job.folder) (entry_text Sequences) text reading
  pub refuses : chosen_seen job names text entries ≡ Err (command.Refused r)

-- the newest step read the next of the chosen messages, and the part that this word names is the first of the wanted
-- ones that the message has not
pub record LacksPart (path : List ℕ) (job : ListJob) (entries : List NamedValue) (word : List ℕ)
    (own : List Deed) : Type 0 where
  pub messages : List ReadMessage
  pub next : ReadMessage
  pub left : List ℕ
  pub before : List Deed
  pub newest : own ≡ reading_of (Folder path job.folder) next ∷ before
  pub just : HasJustRead path job entries messages (next.number ∷ left) before
  pub part : List ℕ
  pub missing : first_missing job.parts (parts_of next.text) ≡ Some part
  pub named : word ≡ path_text part

-- a part is missing
abbrev pub IsNoPart : CommandFault → Type 0
IsNoPart e = (word : List ℕ) × (e ≡ command.Refused (refusal.NoPart word))

-- each refusal of its words is by what it read, and so is that a part is missing; of other refusals this says nothing
abbrev pub RefusesListing : List ℕ → ListJob → List NamedValue → Refusal → List Deed → Type 0
RefusesListing path job entries (refusal.BadSwitch place why) own = Unit {0}
RefusesListing path job entries (refusal.BadFolder s) own = Unit {0}
RefusesListing path job entries (refusal.NoFolder s) own = Unit {0}
RefusesListing path job entries (refusal.BadSpec s) own = IsRefusedByListing path job entries (refusal.BadSpec s) own
RefusesListing path job entries (refusal.Absent s) own = IsRefusedByListing path job entries (refusal.Absent s) own
RefusesListing path job entries (refusal.EmptyRange s) own =
    IsRefusedByListing path job entries (refusal.EmptyRange s) own
RefusesListing path job entries (refusal.EmptySequence s) own =
    IsRefusedByListing path job entries (refusal.EmptySequence s) own
RefusesListing path job entries (refusal.BadSequenceName s) own = Unit {0}
RefusesListing path job entries (refusal.BadFormat n) own = Unit {0}
RefusesListing path job entries (refusal.BadDate s) own = Unit {0}
RefusesListing path job entries (refusal.BadExpr n) own = Unit {0}
RefusesListing path job entries refusal.NoMatch own = Unit {0}
RefusesListing path job entries refusal.NoMail own = Unit {0}
RefusesListing path job entries refusal.NotADrop own = Unit {0}
RefusesListing path job entries (refusal.SameFolder s) own = Unit {0}
RefusesListing path job entries (refusal.Full s) own = Unit {0}
RefusesListing path job entries (refusal.BadDraft n) own = Unit {0}
RefusesListing path job entries (refusal.NoPart word) own = LacksPart path job entries word own
RefusesListing path job entries (refusal.WouldReplace s) own = Unit {0}
RefusesListing path job entries (refusal.TooLarge l limit) own = Unit {0}
RefusesListing path job entries refusal.DropGrown own = Unit {0}
RefusesListing path job entries (refusal.NoFile name) own = Unit {0}
RefusesListing path job entries refusal.DropChanged own = Unit {0}

-- and so of its faults
abbrev pub ShowsListing : List ℕ → ListJob → List NamedValue → CommandFault → List Deed → Type 0
ShowsListing path job entries (command.Refused r) own = RefusesListing path job entries r own
ShowsListing path job entries (command.Faulted which) own = Unit {0}
ShowsListing path job entries (command.Locked q) own = Unit {0}
ShowsListing path job entries (command.Meddled q x) own = Unit {0}
ShowsListing path job entries command.Memory own = Unit {0}
