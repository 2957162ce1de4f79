-- What the words of `sortm` say.
use Rattle.std.specs.Prelude.{◌++◌, codes, ℕ, List, Option, Result, Ok}
use Rattle.mh_words.specs.declared.item.Item.{Item}
use Rattle.mh_profile.specs.declared.named_value.NamedValue.{NamedValue}
use Rattle.command_words.specs.BadValues.{first_of, unless_bad}
use Rattle.command_words.specs.FolderWords.{folders, one_folder}
use Rattle.command_words.specs.MessageWords.{messages, names_or}
use Rattle.command_words.specs.Saying.{folder_said, words_said}
use Rattle.command_words.specs.Words.{profile_words}
use Rattle.command_words.specs.declared.ended.Ended.{Ended}
use Rattle.sort_words.specs.Keys.{key_of, wrong_names}
use Rattle.sort_words.specs.Table.{sort_table}
use Rattle.sort_words.specs.declared.words.SortWords.{SortWords}

-- what the items say beside the folder
abbrev pub words_of : Option (List ℕ) → List Item → SortWords
words_of folder items = record { folder = folder; specs = names_or (codes "all") (messages items); key = key_of items }

-- what the items say, with the folder that they name
abbrev pub sort_items : List (List ℕ) → List Item → Result SortWords Ended
sort_items words items =
    folder_said (λ folder. Ok (words_of folder items)) words
    (unless_bad (first_of (wrong_names items)) (one_folder (folders items)))

-- the words of the profile's entry, and then the command's
abbrev pub sort_line : List NamedValue → List (List ℕ) → List (List ℕ)
sort_line profile words = profile_words (codes "sortm") profile ++ words

-- what the words of `sortm` say, those of the profile first, or the refusal: of a switch; then of a second folder or of
-- a value that is no field's name, the earlier first; and then of a folder's name
abbrev pub sort_said : List NamedValue → List (List ℕ) → Result SortWords Ended
sort_said profile words = words_said sort_items sort_table (sort_line profile words)
