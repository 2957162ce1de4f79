-- What the words of `rmm` say.
use Rattle.std.specs.Prelude.{◌++◌, codes, ℕ, false, unwrap_or, List, Option, Result, Ok}
use Rattle.mh_words.specs.declared.item.Item.{Item}
use Rattle.mh_profile.specs.declared.named_value.NamedValue.{NamedValue}
use Rattle.command_words.specs.FolderWords.{folders, one_folder}
use Rattle.command_words.specs.MessageWords.{messages, names_or}
use Rattle.command_words.specs.Saying.{folder_said, words_said}
use Rattle.command_words.specs.Switches.{last_choice}
use Rattle.folder_words.specs.Tables.{rmm_table}
use Rattle.command_words.specs.Words.{profile_words}
use Rattle.command_words.specs.declared.ended.Ended.{Ended}
use Rattle.folder_words.specs.declared.rmm.RmmWords.{RmmWords}
use Rattle.folder_words.specs.declared.table.TheConstants.{UNLINK, NOUNLINK}

-- what the items say beside the folder; of the two switches the last counts
abbrev pub words_of : Option (List ℕ) → List Item → RmmWords
words_of folder items =
    record {
      folder = folder;
      specs = names_or (codes "cur") (messages items);
      unlink = unwrap_or (last_choice UNLINK NOUNLINK items) false;
    }

-- what the items say, with the folder that they name
abbrev pub rmm_items : List (List ℕ) → List Item → Result RmmWords Ended
rmm_items words items =
    folder_said (λ folder. Ok (words_of folder items)) words (one_folder (folders items))

-- what the words of `rmm` say, those of the profile first, or the refusal: of a switch before that of a second folder,
-- and that before a wrong name
abbrev pub rmm_said : List NamedValue → List (List ℕ) → Result RmmWords Ended
rmm_said profile words = words_said rmm_items rmm_table (profile_words (codes "rmm") profile ++ words)
