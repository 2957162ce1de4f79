-- What holds of all that a command's words say: it holds of what is said, and what ends there is a refusal.
use Rattle.std.proofs.Common.{◌≡◌, ℕ, Bool, true, false, List, Option, Some, None, Result, Ok, Err, refl, subst}
use Rattle.std.specs.Prelude.{if◌then◌else◌}
use Rattle.mh_base.specs.Folders.{is_folder_name, without_plus}
use Rattle.mh_words.specs.Whole.{Wrong, read_in}
use Rattle.mh_words.specs.declared.item.Item.{Item}
use Rattle.mh_words.specs.declared.table.SwitchTable.{SwitchTable}
use Rattle.folder_files.specs.declared.refusal.Refusal.TheVariants as refusal
use Rattle.step_plans.specs.declared.command_fault.CommandFault.{CommandFault}
use Rattle.step_plans.specs.declared.command_fault.CommandFault.TheVariants as fault
use Rattle.step_plans.proofs.Refusals.{IsRefusal}
use Rattle.command_words.specs.FolderWords.{folder_named, some_named}
use Rattle.command_words.specs.Saying.{folder_said, said_unless_refused, said_unless_wrong, words_said}
use Rattle.command_words.specs.declared.ended.Ended.{Ended}
use Rattle.command_words.proofs.SaidFolder.{IsValid}

-- it holds of what is said, or there is a refusal
abbrev pub IsSound : {W : Type 0} → (W → Type 0) → Result W Ended → Type 0
IsSound Holds (Ok said) = Holds said
IsSound Holds (Err e) = IsRefusal e.fault

-- what is no value is a refusal
abbrev pub IsRefusing : {A : Type 0} → Result A CommandFault → Type 0
IsRefusing (Ok value) = Unit {0}
IsRefusing (Err e) = IsRefusal e

pub unless_wrong_sound : {A W : Type 0} (Holds : W → Type 0) (said : A → Result W Ended) (words : List (List ℕ)) (r : Result A Wrong) → ((value : A) → r ≡ Ok value → IsSound Holds (said value))
    → IsSound Holds (said_unless_wrong said words r)
unless_wrong_sound Holds said words (Ok value) f = f value refl
unless_wrong_sound Holds said words (Err wrong) f = (refusal.BadSwitch wrong.place wrong.why, refl)

pub unless_refused_sound : {A W : Type 0} (Holds : W → Type 0) (said : A → Result W Ended) (r : Result A CommandFault) → IsRefusing r → ((value : A) → IsSound Holds (said value)) → IsSound Holds (said_unless_refused said r)
unless_refused_sound Holds said (Ok value) refusing f = f value
unless_refused_sound Holds said (Err e) refusing f = refusing

-- the folder of a word is a folder's name
pub named_sound : {W : Type 0} (Holds : W → Type 0) (said : Option (List ℕ) → Result W Ended) (word : Option (List ℕ)) → ((folder : Option (List ℕ)) → IsValid folder → IsSound Holds (said folder))
    → IsSound Holds (said_unless_refused said (folder_named word))
named_sound Holds said None f = f None tt
named_sound Holds said (Some word) f = go (is_folder_name (without_plus word)) refl
  where
    go : (b : Bool) → is_folder_name (without_plus word) ≡ b → IsSound Holds (said_unless_refused said (some_named (if b then Ok (without_plus word) else Err (fault.Refused (refusal.BadFolder word)))))
    go true is = f (Some (without_plus word)) is
    go false is = (refusal.BadFolder word, refl)

pub folder_sound : {W : Type 0} (Holds : W → Type 0) (said : Option (List ℕ) → Result W Ended) (words : List (List ℕ)) (r : Result (Option (List ℕ)) Wrong) → ((folder : Option (List ℕ)) → IsValid folder → IsSound Holds (said folder))
    → IsSound Holds (folder_said said words r)
folder_sound Holds said words r f = unless_wrong_sound Holds (λ word. said_unless_refused said (folder_named word)) words r (λ word is. named_sound Holds said word f)

pub words_sound : {W : Type 0} (Holds : W → Type 0) (said : List (List ℕ) → List Item → Result W Ended) (table : SwitchTable) (words : List (List ℕ)) → ((items : List Item) → IsSound Holds (said words items))
    → IsSound Holds (words_said said table words)
words_sound Holds said table words f = unless_wrong_sound Holds (said words) words (read_in table 0 words) (λ items is. f items)

-- so it holds of what was said
pub said_holds : {W : Type 0} (Holds : W → Type 0) (r : Result W Ended) (said : W) → IsSound Holds r → r ≡ Ok said → Holds said
said_holds Holds r said sound is = subst (IsSound Holds) is sound

-- and what was refused was refused
pub said_refuses : {W : Type 0} (Holds : W → Type 0) (r : Result W Ended) (e : Ended) → IsSound Holds r → r ≡ Err e → IsRefusal e.fault
said_refuses Holds r e sound is = subst (IsSound Holds) is sound
