-- What the words of `mhstore` say.
use Rattle.std.specs.Prelude.{◌++◌, codes, ℕ, List, Option, Result, Ok}
use Rattle.mh_words.specs.declared.item.Item.{Item}
use Rattle.mh_profile.specs.declared.named_value.NamedValue.{NamedValue}
use Rattle.command_words.specs.BadValues.{first_of, unless_bad}
use Rattle.command_words.specs.FolderWords.{folders, one_folder}
use Rattle.command_words.specs.MessageWords.{messages, names_or}
use Rattle.command_words.specs.Saying.{folder_said, words_said}
use Rattle.command_words.specs.Words.{profile_words}
use Rattle.command_words.specs.declared.ended.Ended.{Ended}
use Rattle.store_words.specs.Table.{store_table}
use Rattle.store_words.specs.Values.{clobbers, parts_of, wrong_values}
use Rattle.store_words.specs.declared.words.StoreWords.{StoreWords}

-- what the items say beside the folder
abbrev pub words_of : Option (List ℕ) → List Item → StoreWords
words_of folder items =
    record {
      folder = folder;
      specs = names_or (codes "cur") (messages items);
      parts = parts_of items;
      clobber = clobbers items;
    }

-- what the items say, with the folder that they name
abbrev pub store_items : List (List ℕ) → List Item → Result StoreWords Ended
store_items words items =
    folder_said (λ folder. Ok (words_of folder items)) words
    (unless_bad (first_of (wrong_values items)) (one_folder (folders items)))

-- the words of the profile's entry, and then the command's
abbrev pub store_line : List NamedValue → List (List ℕ) → List (List ℕ)
store_line profile words = profile_words (codes "mhstore") profile ++ words

-- what the words of `mhstore` say, those of the profile first, or the refusal: of a switch; then of a second folder or
-- of a wrong value, the earlier first; and then of a folder's name
abbrev pub store_said : List NamedValue → List (List ℕ) → Result StoreWords Ended
store_said profile words = words_said store_items store_table (store_line profile words)
