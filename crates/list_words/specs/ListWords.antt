-- What the words of `mhlist` say.
use Rattle.std.specs.Prelude.{◌++◌, codes, ℕ, List, Option, Result, Ok}
use Rattle.mh_words.specs.declared.item.Item.{Item}
use Rattle.mh_profile.specs.declared.named_value.NamedValue.{NamedValue}
use Rattle.command_words.specs.BadValues.{first_of, unless_bad}
use Rattle.command_words.specs.FolderWords.{folders, one_folder}
use Rattle.command_words.specs.MessageWords.{messages, names_or}
use Rattle.command_words.specs.Saying.{folder_said, words_said}
use Rattle.command_words.specs.Words.{profile_words}
use Rattle.command_words.specs.declared.ended.Ended.{Ended}
use Rattle.list_words.specs.Parts.{parts_of, wrong_parts}
use Rattle.list_words.specs.Table.{list_table}
use Rattle.list_words.specs.declared.words.ListWords.{ListWords}

-- what the items say beside the folder
abbrev pub words_of : Option (List ℕ) → List Item → ListWords
words_of folder items =
    record { folder = folder; specs = names_or (codes "cur") (messages items); parts = parts_of items }

-- what the items say, with the folder that they name
abbrev pub list_items : List (List ℕ) → List Item → Result ListWords Ended
list_items words items =
    folder_said (λ folder. Ok (words_of folder items)) words
    (unless_bad (first_of (wrong_parts items)) (one_folder (folders items)))

-- the words of the profile's entry, and then the command's
abbrev pub list_line : List NamedValue → List (List ℕ) → List (List ℕ)
list_line profile words = profile_words (codes "mhlist") profile ++ words

-- what the words of `mhlist` say, those of the profile first, or the refusal: of a switch; then of a second folder or
-- of a value that is no path of a part, the earlier first; and then of a folder's name
abbrev pub list_said : List NamedValue → List (List ℕ) → Result ListWords Ended
list_said profile words = words_said list_items list_table (list_line profile words)
