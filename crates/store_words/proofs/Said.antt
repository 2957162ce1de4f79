-- What the words of `mhstore` say: a refusal; or a folder that is a folder's name.
use Rattle.std.proofs.Common.{◌≡◌, ℕ, List, Ok, Err}
use Rattle.mh_profile.specs.declared.named_value.NamedValue.{NamedValue}
use Rattle.step_plans.proofs.Refusals.{IsRefusal}
use Rattle.command_words.specs.declared.ended.Ended.{Ended}
use Rattle.command_words.proofs.SaidFolder.{IsValid}
use Rattle.command_words.proofs.Sound.{IsSound, folder_sound, said_holds, said_refuses, words_sound}
use Rattle.store_words.specs.StoreWords.{store_items, store_line, store_said, words_of}
use Rattle.store_words.specs.Table.{store_table}
use Rattle.store_words.specs.declared.words.StoreWords.{StoreWords}

abbrev StoreValid : StoreWords → Type 0
StoreValid said = IsValid said.folder

store_sound : (profile : List NamedValue) (words : List (List ℕ)) → IsSound StoreValid (store_said profile words)
store_sound profile words =
    words_sound StoreValid store_items store_table (store_line profile words) (λ items. folder_sound StoreValid (λ folder. Ok (words_of folder items)) _ _ (λ folder valid. valid))

-- what is no word is a refusal
pub store_refuses : (profile : List NamedValue) (words : List (List ℕ)) (x : Ended) → store_said profile words ≡ Err x → IsRefusal x.fault
store_refuses profile words x is = said_refuses StoreValid (store_said profile words) x (store_sound profile words) is

-- the words name a folder, or none
pub store_valid : (profile : List NamedValue) (words : List (List ℕ)) (said : StoreWords) → store_said profile words ≡ Ok said → IsValid said.folder
store_valid profile words said is = said_holds StoreValid (store_said profile words) said (store_sound profile words) is
