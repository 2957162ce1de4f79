-- Which changing steps each command makes, and where.
use Rattle.std.specs.Prelude.{◌≡◌, ◌⊎◌, ◌++◌, ℕ, Bool, true, false, List, Contains}
use Rattle.mh_base.specs.Entries.{kind_of}
use Rattle.mh_base.specs.declared.entry.Entry.TheVariants.{Number}
use Rattle.folder_files.specs.Careful.{Kind, Makes, Creates, Puts, Gives, Takes, Removes, Drops, Discards, Commits, Clears, Stores, IsRead, WasReady}
use Rattle.folder_files.specs.Deeds.{Deed, Once}
use Rattle.folder_files.specs.Histories.{Changes}
use Rattle.folder_files.specs.Named.{is_held}
use Rattle.folder_files.specs.declared.place.Place.{Place}
use Rattle.folder_files.specs.declared.place.Place.TheVariants.{Work, Mail, Folder}
use Rattle.folder_files.specs.declared.place.FilePath.{FilePath}
use Rattle.folder_files.specs.declared.step.Step.{Step}
use Rattle.folder_files.specs.declared.step.Step.TheVariants as step

-- what a command may change, and where: folders by their names in one mail directory, and the numbers that its words
-- chose
pub data Manner : Type 0 where
  -- it looks, and changes nothing
  Looking : Manner
  -- it looks, and keeps the context
  Noting : (mail : List ℕ) → Manner
  -- it changes the marks of a folder: `mark`, `pick -sequence`, `folder` with a message
  Marking : (mail folder : List ℕ) → Manner
  -- `inc`
  Incorporating : (mail folder : List ℕ) → (drop : FilePath) → Manner
  -- `refile`, and with `-link`
  Refiling : (mail source : List ℕ) → (chosen : List ℕ) → (targets : List (List ℕ)) → Manner
  Linking : (mail source : List ℕ) → (chosen : List ℕ) → (targets : List (List ℕ)) → Manner
  -- `rmm`
  Removing : (mail folder : List ℕ) → (chosen : List ℕ) → Manner
  -- `sortm`, and `folder -pack`, which chooses all
  Sorting : (mail folder : List ℕ) → (chosen : List ℕ) → Manner
  -- `anno` with these lines
  Annotating : (mail folder : List ℕ) → (chosen lines : List ℕ) → Manner
  -- `mhstore`, which keeps the context
  Storing : (mail : List ℕ) → Manner
  -- `mhbuild`
  Composing : Manner

-- the name is a number that was chosen
abbrev pub IsChosen : List ℕ → List ℕ → Type 0
IsChosen chosen name = (n : ℕ) × (kind_of name ≡ Number n) × Contains chosen n

-- the step makes this directory, or changes its names
abbrev pub IsMadeIn : Place → Step → Type 0
IsMadeIn p (step.MakeFolder q) = p ≡ q
IsMadeIn p s = Changes p s

-- kinds that serve a file that is written anew: its directory is made, files are made, one takes the name, and
-- temporary names are cleared
abbrev pub serves_commit : Kind → Bool
serves_commit Makes = true
serves_commit Creates = true
serves_commit Commits = true
serves_commit Clears = true
serves_commit _ = false

-- kinds that begin a folder and keep its marks: what was held aside is given back
abbrev pub begins_folder : Kind → Bool
begins_folder Gives = true
begins_folder Drops = true
begins_folder k = serves_commit k

-- kinds that serve a file of the current directory
abbrev pub serves_store : Kind → Bool
serves_store Creates = true
serves_store Clears = true
serves_store Stores = true
serves_store _ = false

-- what keeps the context, in the mail directory alone
abbrev pub KeepsContext : List ℕ → Kind → Step → Type 0
KeepsContext mail kind s = (serves_commit kind ≡ true) × IsMadeIn (Mail mail) s

-- what begins a folder and keeps its marks, and the context with them
abbrev pub KeepsFolder : List ℕ → List ℕ → Kind → Step → Type 0
KeepsFolder mail folder kind s =
    ((begins_folder kind ≡ true) × IsMadeIn (Folder mail folder) s) ⊎ KeepsContext mail kind s

-- the same of one of these folders
abbrev pub KeepsOneOf : List ℕ → List (List ℕ) → Kind → Step → Type 0
KeepsOneOf mail targets kind s = (target : List ℕ) × Contains targets target × KeepsFolder mail target kind s

-- the step stores a file in the current directory
abbrev pub StoresFile : Kind → Step → Type 0
StoresFile kind s = (serves_store kind ≡ true) × Changes Work s

-- the step takes, or removes, a chosen number of this folder
abbrev pub TakesChosen : Place → List ℕ → Kind → Step → Type 0
TakesChosen p chosen kind s =
    (kind ≡ Takes) × (number : List ℕ) × IsChosen chosen number × (held : List ℕ) × (s ≡ step.Rename p number held)

abbrev pub RemovesChosen : Place → List ℕ → Kind → Step → Type 0
RemovesChosen p chosen kind s =
    (kind ≡ Removes) × (number : List ℕ) × IsChosen chosen number
    × (((backup : List ℕ) × (s ≡ step.Rename p number backup)) ⊎ (s ≡ step.Unlink p number))

-- a message that this run holds aside in this folder was read, or a chosen one that stands there, and had these bytes
abbrev pub HasReadHeld : Place → List ℕ → List Deed → Type 0
HasReadHeld p bytes own =
    Once (λ d older. (held : List ℕ) × (is_held (kind_of held) ≡ true) × IsRead p held bytes d) own

abbrev pub HasReadChosen : Place → List ℕ → List ℕ → List Deed → Type 0
HasReadChosen p chosen bytes own =
    Once (λ d older. (number : List ℕ) × IsChosen chosen number × IsRead p number bytes d) own

-- the step puts a file of these bytes into this folder
abbrev pub PutsBytes : Place → List ℕ → List Deed → Kind → Step → Type 0
PutsBytes p bytes own kind s =
    (kind ≡ Puts) × (temp number : List ℕ) × (s ≡ step.Link p temp number) × WasReady p temp bytes own

-- it puts into one of these folders what was read so
abbrev pub PutsRead : List ℕ → List (List ℕ) → (List ℕ → Type 0) → List Deed → Kind → Step → Type 0
PutsRead mail targets HasRead own kind s =
    (target : List ℕ) × Contains targets target × (bytes : List ℕ) × HasRead bytes
    × PutsBytes (Folder mail target) bytes own kind s

-- after these deeds of its run a command of this manner makes such a step in this kind
abbrev pub MakesStep : Manner → List Deed → Kind → Step → Type 0
MakesStep Looking own kind s = ⊥
MakesStep (Noting mail) own kind s = KeepsContext mail kind s
MakesStep (Marking mail folder) own kind s = KeepsFolder mail folder kind s
MakesStep (Incorporating mail folder drop) own kind s =
    KeepsFolder mail folder kind s
    ⊎ (((kind ≡ Puts) × Changes (Folder mail folder) s) ⊎ ((length_ : ℕ) × (s ≡ step.CutDrop drop length_)))
MakesStep (Refiling mail source chosen targets) own kind s =
    KeepsFolder mail source kind s
    ⊎ (KeepsOneOf mail targets kind s
    ⊎ (TakesChosen (Folder mail source) chosen kind s
    ⊎ (PutsRead mail targets (λ bytes. HasReadHeld (Folder mail source) bytes own) own kind s
    ⊎ ((kind ≡ Discards) × Changes (Folder mail source) s))))
MakesStep (Linking mail source chosen targets) own kind s =
    KeepsFolder mail source kind s
    ⊎ (KeepsOneOf mail targets kind s
    ⊎ PutsRead mail targets (λ bytes. HasReadChosen (Folder mail source) chosen bytes own) own kind s)
MakesStep (Removing mail folder chosen) own kind s =
    KeepsFolder mail folder kind s ⊎ RemovesChosen (Folder mail folder) chosen kind s
MakesStep (Sorting mail folder chosen) own kind s =
    KeepsFolder mail folder kind s ⊎ TakesChosen (Folder mail folder) chosen kind s
MakesStep (Annotating mail folder chosen lines) own kind s =
    KeepsFolder mail folder kind s
    ⊎ (TakesChosen (Folder mail folder) chosen kind s
    ⊎ (((bytes : List ℕ) × HasReadHeld (Folder mail folder) bytes own
    × PutsBytes (Folder mail folder) (lines ++ bytes) own kind s)
    ⊎ ((kind ≡ Discards) × Changes (Folder mail folder) s)))
MakesStep (Storing mail) own kind s = KeepsContext mail kind s ⊎ StoresFile kind s
MakesStep Composing own kind s = StoresFile kind s
