-- The folders that the items of `refile` name, one item after another.
use Rattle.std.specs.Prelude.{◌≡◌, ◌==◌, ◌⊎◌, ◌++◌, ◌∷◌, [], ℕ, Bool, true, false, List, Option, None, Some, Result, Ok, Err}
use Rattle.mh_base.specs.Folders.{is_folder_name, without_plus}
use Rattle.mh_words.specs.declared.item.Item.{Item}
use Rattle.mh_words.specs.declared.item.Item.TheVariants.{Folder, Message, Switch, Component}
use Rattle.folder_files.specs.declared.refusal.Refusal.TheVariants as refusal
use Rattle.step_plans.specs.declared.command_fault.CommandFault.{CommandFault}
use Rattle.step_plans.specs.declared.command_fault.CommandFault.TheVariants as fault
use Rattle.folder_words.specs.RefileWords.{source_of, targets, wrong_names}
use Rattle.folder_words.specs.declared.refile.FoldersNamed.{FoldersNamed}
use Rattle.folder_words.specs.declared.table.TheConstants.{SRC}

-- the folders for messages to go to; others come only after a first
abbrev pub AreBehind : Option (List ℕ) → List (List ℕ) → List (List ℕ) → Type 0
AreBehind None others names = (others ≡ []) × (names ≡ [])
AreBehind (Some target) others names = names ≡ target ∷ others

abbrev pub AreTargets : FoldersNamed → List (List ℕ) → Type 0
AreTargets named names = AreBehind named.target named.others names

-- a word names no folder, and is the first of these
abbrev pub IsFirstWrong : CommandFault → List (List ℕ) → Type 0
IsFirstWrong e words =
    (word : List ℕ) × (others : List (List ℕ)) × (words ≡ word ∷ others) × (e ≡ fault.Refused (refusal.BadFolder word))

-- one more of them was noted
abbrev pub IsTargetNoted : FoldersNamed → List ℕ → FoldersNamed → Type 0
IsTargetNoted old name new =
    (new.source ≡ old.source) × ((names : List (List ℕ)) → AreTargets old names → AreTargets new (names ++ name ∷ []))

-- the folder that messages leave was noted, or the word names none
abbrev pub IsSourceNoted : FoldersNamed → List ℕ → FoldersNamed → Result Unit CommandFault → Type 0
IsSourceNoted old word new (Ok u) =
    (new.source ≡ Some (without_plus word)) × (new.target ≡ old.target) × (new.others ≡ old.others)
    × (is_folder_name (without_plus word) ≡ true)
IsSourceNoted old word new (Err e) =
    ((is_folder_name (without_plus word) ≡ false) × (e ≡ fault.Refused (refusal.BadFolder word))) ⊎ (e ≡ fault.Memory)

-- a word that is a folder for messages to go to was noted, or it names none
abbrev pub IsWordNoted : FoldersNamed → List ℕ → FoldersNamed → Result Unit CommandFault → Type 0
IsWordNoted old word new (Ok u) =
    IsTargetNoted old (without_plus word) new × (is_folder_name (without_plus word) ≡ true)
IsWordNoted old word new (Err e) =
    ((is_folder_name (without_plus word) ≡ false) × (e ≡ fault.Refused (refusal.BadFolder word))) ⊎ (e ≡ fault.Memory)

-- nothing was noted
abbrev pub IsUnchanged : FoldersNamed → FoldersNamed → Result Unit CommandFault → Type 0
IsUnchanged old new (Ok u) = new ≡ old
IsUnchanged old new (Err e) = e ≡ fault.Memory

-- the value of a switch was noted, where the switch is the one of the source
abbrev pub IsValueNoted : Bool → FoldersNamed → List ℕ → FoldersNamed → Result Unit CommandFault → Type 0
IsValueNoted true old value new r = IsSourceNoted old value new r
IsValueNoted false old value new r = IsUnchanged old new r

-- what one item more names was noted
abbrev pub IsNoted : FoldersNamed → Item → FoldersNamed → Result Unit CommandFault → Type 0
IsNoted old (Folder text place) new r = IsWordNoted old text new r
IsNoted old (Message text place) new r = IsUnchanged old new r
IsNoted old (Switch index None place) new r = IsUnchanged old new r
IsNoted old (Switch index (Some value) place) new r = IsValueNoted (index == SRC) old value new r
IsNoted old (Component name value place) new r = IsUnchanged old new r

-- these items name just these folders, and each word that names one is a folder's name
abbrev pub AreNamed : List Item → Result FoldersNamed CommandFault → Type 0
AreNamed items (Ok named) =
    (named.source ≡ source_of items) × AreTargets named (targets items) × (wrong_names items ≡ [])
AreNamed items (Err e) = IsFirstWrong e (wrong_names items) ⊎ (e ≡ fault.Memory)
