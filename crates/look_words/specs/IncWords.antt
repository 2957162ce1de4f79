-- What the words of `inc` say.
use Rattle.std.specs.Prelude.{◌++◌, codes, ℕ, true, false, is_none, unwrap_or, List, Option, Result, Ok}
use Rattle.mh_words.specs.declared.item.Item.{Item}
use Rattle.mh_words.specs.Whole.{Wrong}
use Rattle.mh_profile.specs.declared.named_value.NamedValue.{NamedValue}
use Rattle.command_words.specs.BadValues.{first_of, unless_bad}
use Rattle.command_words.specs.FolderWords.{folders, one_folder}
use Rattle.command_words.specs.MessagePlaces.{alone, message_places}
use Rattle.look_words.specs.LookWords.{look_of, wrong_widths}
use Rattle.command_words.specs.Saying.{folder_said, words_said}
use Rattle.command_words.specs.Switches.{last_choice, last_of, values}
use Rattle.look_words.specs.Tables.{inc_table}
use Rattle.command_words.specs.Words.{profile_words}
use Rattle.command_words.specs.declared.ended.Ended.{Ended}
use Rattle.look_words.specs.declared.inc.IncWords.{IncWords}
use Rattle.look_words.specs.declared.table.TheConstants.{FILE, TRUNCATE, NOTRUNCATE, CHANGECUR, NOCHANGECUR, SILENT, NOSILENT}

-- one folder or none, and no message
abbrev pub folder_alone : List Item → Result (Option (List ℕ)) Wrong
folder_alone items = alone (one_folder (folders items)) (first_of (message_places items))

-- what the items say beside the folder: of two switches that say the same or the contrary the last counts, and a file
-- that is named stays whole unless words say otherwise
abbrev pub words_of : Option (List ℕ) → List Item → IncWords
words_of folder items = record {
  folder = folder;
  file = last_of (values FILE items);
  truncate = unwrap_or (last_choice TRUNCATE NOTRUNCATE items) (is_none (last_of (values FILE items)));
  silent = unwrap_or (last_choice SILENT NOSILENT items) false;
  change_cur = unwrap_or (last_choice CHANGECUR NOCHANGECUR items) true;
  look = look_of items;
}

-- what the items say, with the folder that they name
abbrev pub inc_items : List (List ℕ) → List Item → Result IncWords Ended
inc_items words items =
    folder_said (λ folder. Ok (words_of folder items)) words
    (unless_bad (first_of (wrong_widths items)) (folder_alone items))

-- what the words of `inc` say, those of the profile first, or the refusal: of a switch before that of a word that is
-- too many or of a width that is none, the earlier first, and that before a wrong name
abbrev pub inc_said : List NamedValue → List (List ℕ) → Result IncWords Ended
inc_said profile words = words_said inc_items inc_table (profile_words (codes "inc") profile ++ words)
