-- What the words of `sortm` say: a refusal; or a folder that is a folder's name.
use Rattle.std.proofs.Common.{◌≡◌, ℕ, List, Ok, Err}
use Rattle.mh_profile.specs.declared.named_value.NamedValue.{NamedValue}
use Rattle.step_plans.proofs.Refusals.{IsRefusal}
use Rattle.command_words.specs.declared.ended.Ended.{Ended}
use Rattle.command_words.proofs.SaidFolder.{IsValid}
use Rattle.command_words.proofs.Sound.{IsSound, folder_sound, said_holds, said_refuses, words_sound}
use Rattle.sort_words.specs.SortWords.{sort_items, sort_line, sort_said, words_of}
use Rattle.sort_words.specs.Table.{sort_table}
use Rattle.sort_words.specs.declared.words.SortWords.{SortWords}

abbrev SortValid : SortWords → Type 0
SortValid said = IsValid said.folder

sort_sound : (profile : List NamedValue) (words : List (List ℕ)) → IsSound SortValid (sort_said profile words)
sort_sound profile words =
    words_sound SortValid sort_items sort_table (sort_line profile words) (λ items. folder_sound SortValid (λ folder. Ok (words_of folder items)) _ _ (λ folder valid. valid))

-- what is no word is a refusal
pub sort_refuses : (profile : List NamedValue) (words : List (List ℕ)) (x : Ended) → sort_said profile words ≡ Err x → IsRefusal x.fault
sort_refuses profile words x is = said_refuses SortValid (sort_said profile words) x (sort_sound profile words) is

-- the words name a folder, or none
pub sort_valid : (profile : List NamedValue) (words : List (List ℕ)) (said : SortWords) → sort_said profile words ≡ Ok said → IsValid said.folder
sort_valid profile words said is = said_holds SortValid (sort_said profile words) said (sort_sound profile words) is
