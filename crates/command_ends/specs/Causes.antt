-- What shows how a command ended: its run's own deeds in the call, the newest first.
use Rattle.std.specs.Prelude.{◌≡◌, ◌⊎◌, ◌++◌, ℕ, false, List, [], ◌∷◌}
use Rattle.mh_base.specs.Folders.{is_folder_name, without_plus}
use Rattle.mh_base.specs.Entries.{entry_text}
use Rattle.mh_base.specs.declared.entry.Entry.TheVariants.{Sequences}
use Rattle.folder_files.specs.Deeds.{Deed, did}
use Rattle.folder_files.specs.declared.place.Place.{Place}
use Rattle.folder_files.specs.declared.place.Place.TheVariants.{Home, Mail, Folder}
use Rattle.folder_files.specs.declared.refusal.Refusal.{Refusal}
use Rattle.folder_files.specs.declared.refusal.Refusal.TheVariants as refusal
use Rattle.folder_files.specs.declared.step.Step.TheVariants as step
use Rattle.folder_files.specs.declared.step.Answer.{Answer}
use Rattle.folder_files.specs.declared.step.Answer.TheVariants as answer
use Rattle.step_plans.specs.ContextCommit.{context_name, LIMIT_BYTES, TRIES}
use Rattle.step_plans.specs.Endings.{IsHeld, IsMeddled, IsLongRead, IsLongText}
use Rattle.step_plans.specs.declared.command_fault.CommandFault.{CommandFault}
use Rattle.step_plans.specs.declared.command_fault.CommandFault.TheVariants as fault
use Rattle.command_stages.specs.Current.{current_change}
use Rattle.command_stages.specs.Texts.{too_large}
use Rattle.command_plans.specs.Profile.{entries_by, path_by, profile_name, stored_of}

-- the call read the profile and then the context of the mail directory that it names, and by the two answers this holds
pub record ByReadings (Holds : Answer → Answer → Type 0) (own : List Deed) : Type 0 where
  pub profile : Answer
  pub context : Answer
  pub newer : List Deed
  pub begun :
      own
      ≡ newer
      ++ did (step.Read (Mail (path_by profile)) context_name LIMIT_BYTES) context
      ∷ did (step.Read Home profile_name LIMIT_BYTES) profile ∷ []
  pub holds : Holds profile context

-- the profile or the context is too long
pub data ShowsLongEntries : CommandFault → List Deed → Type 0 where
  long_profile : {l : ℕ}
      → ShowsLongEntries (too_large l) (did (step.Read Home profile_name LIMIT_BYTES) (answer.Long l) ∷ [])
  long_context : {l : ℕ} {a : Answer}
      → ShowsLongEntries (too_large l)
      (did (step.Read (Mail (path_by a)) context_name LIMIT_BYTES) (answer.Long l)
      ∷ (did (step.Read Home profile_name LIMIT_BYTES) a ∷ []))

-- the profile was read, and then the context of the mail directory that it names, and that is all; by these this word
-- is the current folder's stored name, or else the profile's or `inbox`, and it is the name of no folder
pub record IsWrongStored (word : List ℕ) (own : List Deed) : Type 0 where
  pub profile : Answer
  pub context : Answer
  pub reads :
      own
      ≡ did (step.Read (Mail (path_by profile)) context_name LIMIT_BYTES) context
      ∷ (did (step.Read Home profile_name LIMIT_BYTES) profile ∷ [])
  pub stored : stored_of (entries_by context) (entries_by profile) ≡ word
  pub wrong : is_folder_name (without_plus word) ≡ false

-- the newest step listed the folder of this name in a mail directory, and it isn't there
abbrev pub IsFolderGone : List ℕ → List Deed → Type 0
IsFolderGone name own =
    (mail : List ℕ) × (older : List Deed) × (own ≡ did (step.List (Folder mail name)) answer.Gone ∷ older)

-- a folder was listed, which is there, and its sequences were read; these are the newest steps
abbrev pub IsFolderRead : List Deed → Type 0
IsFolderRead own = (mail : List ℕ) × (name : List ℕ) × (names : List (List ℕ)) × (a : Answer) × (older : List Deed)
    × (own ≡ did (step.Read (Folder mail name) (entry_text Sequences) LIMIT_BYTES) a
    ∷ (did (step.List (Folder mail name)) (answer.Names names) ∷ older))

-- the newest step read a file, and the answer was that it is too long, with this length; or that step read the context,
-- and the text in which some folder is the current one has this length, which is above the limit
abbrev pub IsAboveLimit : ℕ → List Deed → Type 0
IsAboveLimit l own =
    ((place : Place) × (name : List ℕ) × IsLongRead place name l own)
    ⊎ ((mail : List ℕ) × (folder : List ℕ) × IsLongText (Mail mail) (current_change folder) l own)

-- what shows each refusal once the words are read; the others never come
abbrev pub ShowsRefusal : Refusal → List Deed → Type 0
ShowsRefusal (refusal.BadFolder s) own = IsWrongStored s own
ShowsRefusal (refusal.NoFolder s) own = IsFolderGone s own
ShowsRefusal (refusal.BadSpec s) own = IsFolderRead own
ShowsRefusal (refusal.Absent s) own = IsFolderRead own
ShowsRefusal (refusal.EmptyRange s) own = IsFolderRead own
ShowsRefusal (refusal.EmptySequence s) own = IsFolderRead own
ShowsRefusal (refusal.TooLarge l limit) own = (limit ≡ LIMIT_BYTES) × IsAboveLimit l own
ShowsRefusal other own = ⊥

-- what shows each fault that the plan of a command returns. It never returns a fault of its surroundings or want of
-- memory.
abbrev pub ShowsCommandFault : ℕ → CommandFault → List Deed → Type 0
ShowsCommandFault run (fault.Refused r) own = ShowsRefusal r own
ShowsCommandFault run (fault.Faulted which) own = ⊥
ShowsCommandFault run (fault.Locked place) own = (mail : List ℕ) × (place ≡ Mail mail) × IsHeld place TRIES own
ShowsCommandFault run (fault.Meddled place name) own = IsMeddled run place name own
ShowsCommandFault run fault.Memory own = ⊥
