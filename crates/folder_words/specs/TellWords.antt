-- What the words of `folder` say.
use Rattle.std.specs.Prelude.{◌++◌, codes, ℕ, Bool, true, false, unwrap_or, List, Option, Result, Ok}
use Rattle.mh_words.specs.declared.item.Item.{Item}
use Rattle.mh_words.specs.Whole.{Wrong}
use Rattle.mh_profile.specs.declared.named_value.NamedValue.{NamedValue}
use Rattle.command_words.specs.BadValues.{first_of, second_of}
use Rattle.command_words.specs.FolderWords.{folders, one_folder}
use Rattle.command_words.specs.MessagePlaces.{alone, message_places}
use Rattle.command_words.specs.MessageWords.{messages}
use Rattle.command_words.specs.Saying.{folder_said, words_said}
use Rattle.command_words.specs.Switches.{last_choice}
use Rattle.folder_words.specs.Tables.{folder_table}
use Rattle.command_words.specs.Words.{profile_words}
use Rattle.command_words.specs.declared.ended.Ended.{Ended}
use Rattle.folder_words.specs.declared.folder.FolderWords.{FolderWords}
use Rattle.folder_words.specs.declared.table.TheConstants.{NOPACK, PACK}

-- the second, where one was seen or none
abbrev pub second_from : Bool → List ℕ → Option ℕ
second_from false places = second_of places
second_from true places = first_of places

-- whether the messages are numbered anew: the last of `-pack` and `-nopack` counts
abbrev pub is_packed : List Item → Bool
is_packed items = unwrap_or (last_choice PACK NOPACK items) false

-- of these places of messages' names the first that is too many: where the messages are numbered anew each is, else the
-- second
abbrev pub too_many : Bool → List ℕ → Option ℕ
too_many true places = first_of places
too_many false places = second_of places

-- one folder or none, and one message's name or none, and none where the messages are numbered anew: the earliest word
-- that is too many is refused
abbrev pub folder_and_message : List Item → Result (Option (List ℕ)) Wrong
folder_and_message items = alone (one_folder (folders items)) (too_many (is_packed items) (message_places items))

-- what the items say beside the folder
abbrev pub words_of : Option (List ℕ) → List Item → FolderWords
words_of folder items = record { folder = folder; pack = is_packed items; specs = messages items }

-- what the items say, with the folder that they name
abbrev pub tell_items : List (List ℕ) → List Item → Result FolderWords Ended
tell_items words items =
    folder_said (λ folder. Ok (words_of folder items)) words (folder_and_message items)

-- what the words of `folder` say, those of the profile first, or the refusal: of a switch before that of a word that is
-- too many, and that before a wrong name
abbrev pub tell_said : List NamedValue → List (List ℕ) → Result FolderWords Ended
tell_said profile words = words_said tell_items folder_table (profile_words (codes "folder") profile ++ words)
