-- What the words of `scan` say.
use Rattle.std.specs.Prelude.{◌++◌, codes, ℕ, false, unwrap_or, List, Option, Result, Ok}
use Rattle.mh_words.specs.declared.item.Item.{Item}
use Rattle.mh_profile.specs.declared.named_value.NamedValue.{NamedValue}
use Rattle.command_words.specs.BadValues.{first_of, unless_bad}
use Rattle.command_words.specs.FolderWords.{folders, one_folder}
use Rattle.look_words.specs.LookWords.{look_of, wrong_widths}
use Rattle.command_words.specs.MessageWords.{messages, names_or}
use Rattle.command_words.specs.Saying.{folder_said, words_said}
use Rattle.command_words.specs.Switches.{last_choice}
use Rattle.look_words.specs.Tables.{scan_table}
use Rattle.command_words.specs.Words.{profile_words}
use Rattle.command_words.specs.declared.ended.Ended.{Ended}
use Rattle.look_words.specs.declared.scan.ScanWords.{ScanWords}
use Rattle.look_words.specs.declared.table.TheConstants.{REVERSE, NOREVERSE}

-- what the items say beside the folder; of the two switches the last counts
abbrev pub words_of : Option (List ℕ) → List Item → ScanWords
words_of folder items =
    record {
      folder = folder;
      specs = names_or (codes "all") (messages items);
      reverse = unwrap_or (last_choice REVERSE NOREVERSE items) false;
      look = look_of items;
    }

-- what the items say, with the folder that they name
abbrev pub scan_items : List (List ℕ) → List Item → Result ScanWords Ended
scan_items words items =
    folder_said (λ folder. Ok (words_of folder items)) words
    (unless_bad (first_of (wrong_widths items)) (one_folder (folders items)))

-- what the words of `scan` say, those of the profile first, or the refusal: of a switch before that of a second folder
-- or of a width that is none, the earlier first, and that before a wrong name
abbrev pub scan_said : List NamedValue → List (List ℕ) → Result ScanWords Ended
scan_said profile words = words_said scan_items scan_table (profile_words (codes "scan") profile ++ words)
