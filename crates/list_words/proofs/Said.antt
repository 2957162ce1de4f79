-- What the words of `mhlist` say: a refusal; or a folder that is a folder's name.
use Rattle.std.proofs.Common.{◌≡◌, ℕ, List, Ok, Err}
use Rattle.mh_profile.specs.declared.named_value.NamedValue.{NamedValue}
use Rattle.step_plans.proofs.Refusals.{IsRefusal}
use Rattle.command_words.specs.declared.ended.Ended.{Ended}
use Rattle.command_words.proofs.SaidFolder.{IsValid}
use Rattle.command_words.proofs.Sound.{IsSound, folder_sound, said_holds, said_refuses, words_sound}
use Rattle.list_words.specs.ListWords.{list_items, list_line, list_said, words_of}
use Rattle.list_words.specs.Table.{list_table}
use Rattle.list_words.specs.declared.words.ListWords.{ListWords}

abbrev ListValid : ListWords → Type 0
ListValid said = IsValid said.folder

list_sound : (profile : List NamedValue) (words : List (List ℕ)) → IsSound ListValid (list_said profile words)
list_sound profile words =
    words_sound ListValid list_items list_table (list_line profile words) (λ items. folder_sound ListValid (λ folder. Ok (words_of folder items)) _ _ (λ folder valid. valid))

-- what is no word is a refusal
pub list_refuses : (profile : List NamedValue) (words : List (List ℕ)) (x : Ended) → list_said profile words ≡ Err x → IsRefusal x.fault
list_refuses profile words x is = said_refuses ListValid (list_said profile words) x (list_sound profile words) is

-- the words name a folder, or none
pub list_valid : (profile : List NamedValue) (words : List (List ℕ)) (said : ListWords) → list_said profile words ≡ Ok said → IsValid said.folder
list_valid profile words said is = said_holds ListValid (list_said profile words) said (list_sound profile words) is
