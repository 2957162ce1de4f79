-- The folder that words name.
use Rattle.std.specs.Prelude.{◌≡◌, ◌⊎◌, ◌++◌, ℕ, List, [], ◌∷◌, Option, None, Some, option_map, Result, Ok, Err, if◌then◌else◌}
use Rattle.std.specs.Borrow.{Bor}
use Rattle.std.specs.List.{flat_map}
use Rattle.mh_base.specs.Folders.{is_folder_name, without_plus}
use Rattle.mh_base.specs.declared.word.WordWhy.TheVariants.{Extra}
use Rattle.mh_words.specs.declared.item.Item.{Item}
use Rattle.mh_words.specs.declared.item.Item.TheVariants.{Folder, Message, Switch, Component}
use Rattle.mh_words.specs.Whole.{Wrong}
use Rattle.folder_files.specs.declared.refusal.Refusal.TheVariants as refusal
use Rattle.step_plans.specs.declared.command_fault.CommandFault.{CommandFault}
use Rattle.step_plans.specs.declared.command_fault.CommandFault.TheVariants as fault

-- a folder's word and its place
pub record FolderWord : Type 0 where
  pub text : List ℕ
  pub place : ℕ

-- the folder that an item is
abbrev pub folder_in : Item → List FolderWord
folder_in (Folder text place) = record { text = text; place = place } ∷ []
folder_in (Message text place) = []
folder_in (Switch index value place) = []
folder_in (Component name value place) = []

-- the folders among the items
abbrev pub folders : List Item → List FolderWord
folders items = flat_map folder_in items

-- one folder or none; a second one is too many
abbrev pub one_folder : List FolderWord → Result (Option (List ℕ)) Wrong
one_folder [] = Ok None
one_folder (f ∷ []) = Ok (Some f.text)
one_folder (f ∷ (g ∷ fs)) = Err (record { place = g.place; why = Extra })

-- the one folder, where this one was seen and these are left
abbrev pub remaining : Option (List ℕ) → List FolderWord → Result (Option (List ℕ)) Wrong
remaining None fs = one_folder fs
remaining (Some text) [] = Ok (Some text)
remaining (Some text) (f ∷ fs) = Err (record { place = f.place; why = Extra })

-- one item more was seen, or it is a second folder
abbrev pub IsFolderSeen : Option (List ℕ) → Item → Result (Option (Bor (List ℕ))) ℕ → Type 0
IsFolderSeen found item (Ok later) =
    (rest : List FolderWord) → remaining found (folder_in item ++ rest) ≡ remaining (option_map (λ w. w.now) later) rest
IsFolderSeen found item (Err place) =
    (rest : List FolderWord) → remaining found (folder_in item ++ rest) ≡ Err (record { place = place; why = Extra })

-- a folder's name, or the refusal of the word that is none
abbrev pub named_folder : List ℕ → Result (List ℕ) CommandFault
named_folder word =
    if is_folder_name (without_plus word) then Ok (without_plus word) else Err (fault.Refused (refusal.BadFolder word))

abbrev pub some_named : Result (List ℕ) CommandFault → Result (Option (List ℕ)) CommandFault
some_named (Ok name) = Ok (Some name)
some_named (Err e) = Err e

-- the same of a word, where there is one
abbrev pub folder_named : Option (List ℕ) → Result (Option (List ℕ)) CommandFault
folder_named None = Ok None
folder_named (Some word) = some_named (named_folder word)

-- the folder of this word, where there is one
abbrev pub IsSaidFolder : Option (List ℕ) → Result (Option (List ℕ)) CommandFault → Type 0
IsSaidFolder None (Ok None) = Unit {0}
IsSaidFolder None (Ok (Some name)) = ⊥
IsSaidFolder None (Err e) = ⊥
IsSaidFolder (Some word) (Ok None) = ⊥
IsSaidFolder (Some word) (Ok (Some name)) = named_folder word ≡ Ok name
IsSaidFolder (Some word) (Err e) = (named_folder word ≡ Err e) ⊎ (e ≡ fault.Memory)
