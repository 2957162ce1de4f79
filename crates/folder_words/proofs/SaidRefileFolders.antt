-- The folders that the words of `refile` name are folders' names.
use Rattle.std.proofs.Common.{◌≡◌, ◌∷◌, ◌++◌, [], ℕ, ◌==◌, Bool, true, false, List, Option, None, Some, Ok, refl, subst, if◌then◌else◌}
use Rattle.std.specs.Prelude.{filter, not}
use Rattle.mh_base.specs.Folders.{is_folder_name, without_plus}
use Rattle.mh_words.specs.declared.item.Item.{Item}
use Rattle.mh_words.specs.declared.item.Item.TheVariants.{Folder, Message, Switch, Component}
use Rattle.folder_words.specs.RefileWords.{refile_items, last_or, source_of, targets, targets_said, unless_wrong, words_of, wrong_names}
use Rattle.command_words.specs.Switches.{values}
use Rattle.folder_words.specs.declared.refile.RefileWords.{RefileWords}
use Rattle.folder_words.specs.declared.table.TheConstants.{SRC}
use Rattle.command_words.proofs.SaidFolder.{IsValid, no_ok, ok_same}

-- each of these is a folder's name
abbrev pub AreValid : List (List ℕ) → Type 0
AreValid [] = Unit {0}
AreValid (name ∷ names) = (is_folder_name name ≡ true) × AreValid names

-- of items without a wrong name
abbrev Valid : Option (List ℕ) → List Item → Type 0
Valid before items = AreValid (targets items) × IsValid (last_or before (values SRC items))

-- the same, where a switch named the source before
abbrev NamedBy : List ℕ → List Item → Type 0
NamedBy value items = Valid (Some (without_plus value)) items

all_valid : (items : List Item) (before : Option (List ℕ)) → IsValid before → wrong_names items ≡ [] → Valid before items
all_valid [] before valid e = (tt, valid)
all_valid (Message text place ∷ items) before valid e = all_valid items before valid e
all_valid (Component name value place ∷ items) before valid e = all_valid items before valid e
all_valid (Folder text place ∷ items) before valid e = go (is_folder_name (without_plus text)) refl e (λ f. all_valid items before valid f)
  where
    go : (b : Bool) → is_folder_name (without_plus text) ≡ b → (if not b then text ∷ [] else []) ++ wrong_names items ≡ [] → (wrong_names items ≡ [] → Valid before items) → Valid before (Folder text place ∷ items)
    go true is e rest = let others = rest e in ((is, others.0), others.1)
    go false is e rest = cc (e)
all_valid (Switch index None place ∷ items) before valid e = all_valid items before valid e
all_valid (Switch index (Some value) place ∷ items) before valid e = by_index (index == SRC) e (λ f. all_valid items before valid f) (λ is f. all_valid items (Some (without_plus value)) is f)
  where
    named : (b : Bool) → is_folder_name (without_plus value) ≡ b → (if not b then value ∷ [] else []) ++ wrong_names items ≡ [] → (is_folder_name (without_plus value) ≡ true → wrong_names items ≡ [] → NamedBy value items) → NamedBy value items
    named true is e rest = rest is e
    named false is e rest = cc (e)

    by_index : (b : Bool) → filter (λ word. not (is_folder_name (without_plus word))) (if b then value ∷ [] else []) ++ wrong_names items ≡ [] → (wrong_names items ≡ [] → Valid before items)
        → (is_folder_name (without_plus value) ≡ true → wrong_names items ≡ [] → NamedBy value items) → AreValid (targets items) × IsValid (last_or before ((if b then value ∷ [] else []) ++ values SRC items))
    by_index false e rest set = rest e
    by_index true e rest set = named (is_folder_name (without_plus value)) refl e set

-- what the words of `refile` say names folders alone
abbrev pub NamesFolders : RefileWords → Type 0
NamesFolders words = IsValid words.source × (is_folder_name words.target ≡ true) × AreValid words.others

wrong_valid : (items : List Item) (target : List ℕ) (others : List (List ℕ)) (words : RefileWords) → AreValid (target ∷ others) → (wrong : List (List ℕ)) → wrong_names items ≡ wrong
    → unless_wrong (words_of (source_of items) target others items) wrong ≡ Ok words → NamesFolders words
wrong_valid items target others words valid [] is e = subst NamesFolders (ok_same _ words e) ((all_valid items None tt is).1, valid.0, valid.1)
wrong_valid items target others words valid (word ∷ more) is e = no_ok _ words e

targets_valid : (all : List (List ℕ)) (items : List Item) (names : List (List ℕ)) (words : RefileWords) → targets items ≡ names → targets_said all items names ≡ Ok words → NamesFolders words
targets_valid all items [] words is e = no_ok _ words e
targets_valid all items (target ∷ others) words is e = go (wrong_names items) refl e
  where
    go : (wrong : List (List ℕ)) → wrong_names items ≡ wrong → unless_wrong (words_of (source_of items) target others items) wrong ≡ Ok words → NamesFolders words
    go [] none e = wrong_valid items target others words (subst AreValid is (all_valid items None tt none).0) [] none e
    go (word ∷ more) some e = no_ok _ words e

pub items_valid : (all : List (List ℕ)) (items : List Item) (words : RefileWords) → refile_items all items ≡ Ok words → NamesFolders words
items_valid all items words e = targets_valid all items (targets items) words refl e
