-- What the words of `anno` say.
use Rattle.std.specs.Prelude.{◌++◌, ◌==◌, ◌&&◌, not, codes, ℕ, ℤ, Bool, true, unwrap_or, length, List, Option, None, Some, option_map, Result, Ok, Err, if◌then◌else◌}
use Rattle.std.specs.Str.{encode_utf8_all}
use Rattle.mh_words.specs.declared.item.Item.{Item}
use Rattle.mh_profile.specs.declared.named_value.NamedValue.{NamedValue}
use Rattle.mail_dates.specs.declared.mail_date.MailDate.{MailDate}
use Rattle.annotation_lines.specs.Lines.{annotation_lines}
use Rattle.annotation_lines.specs.Moments.{date_at}
use Rattle.command_words.specs.BadValues.{first_of, unless_bad}
use Rattle.command_words.specs.Ended.{wrong_at, missing_after}
use Rattle.command_words.specs.FolderWords.{folders, folder_named, one_folder}
use Rattle.command_words.specs.MessageWords.{messages, names_or}
use Rattle.command_words.specs.Saying.{said_unless_refused, said_unless_wrong, words_said}
use Rattle.command_words.specs.Switches.{last_choice, last_of, values}
use Rattle.command_words.specs.Words.{profile_words}
use Rattle.command_words.specs.declared.ended.Ended.{Ended}
use Rattle.anno_words.specs.Table.{anno_table}
use Rattle.anno_words.specs.WrongValues.{wrong_values}
use Rattle.anno_words.specs.declared.table.TheConstants.{COMPONENT, DATE, NODATE, TEXT}
use Rattle.anno_words.specs.declared.words.AnnoWords.{AnnoWords}

-- the lines have a date, unless the last of `-date` and `-nodate` says that they have none
abbrev pub is_dated : List Item → Bool
is_dated items = unwrap_or (last_choice DATE NODATE items) true

-- the name of the lines' field: the last that is given, where there is a date or a text to say under it
abbrev pub component_of : List Item → Option (List ℕ)
component_of items =
    if length (values TEXT items) == 0 && not (is_dated items) then None else last_of (values COMPONENT items)

-- the bytes of the last text that is given
abbrev pub text_of : List Item → Option (List ℕ)
text_of items = option_map encode_utf8_all (last_of (values TEXT items))

-- what the items say beside the folder and the lines
abbrev pub words_of : Option (List ℕ) → List ℕ → List Item → AnnoWords
words_of folder lines items = record { folder = folder; specs = names_or (codes "cur") (messages items); lines = lines }

-- the date is that of this moment, by a clock that is so many minutes ahead of UTC
module _ (moment offset : ℤ) where
  abbrev pub date_of : List Item → Option MailDate
  date_of items = if is_dated items then Some (date_at moment offset) else None

  -- the lines under this name
  abbrev pub lines_of : List Item → List ℕ → List ℕ
  lines_of items name = annotation_lines (encode_utf8_all name) (date_of items) (text_of items)

  -- under this name, with the folder that they name
  abbrev pub named_said : List Item → List ℕ → Option (List ℕ) → Result AnnoWords Ended
  named_said items name word =
      said_unless_refused (λ folder. Ok (words_of folder (lines_of items name) items)) (folder_named word)

  -- with this name of the lines' field, or none
  abbrev pub word_said : List (List ℕ) → List Item → Option (List ℕ) → Option (List ℕ) → Result AnnoWords Ended
  word_said words items word (Some name) = named_said items name word
  word_said words items word None = Err (wrong_at words (missing_after words))

  -- what the items say
  abbrev pub anno_items : List (List ℕ) → List Item → Result AnnoWords Ended
  anno_items words items =
      said_unless_wrong (λ word. word_said words items word (component_of items)) words
      (unless_bad (first_of (wrong_values items)) (one_folder (folders items)))

-- the words of the profile's entry, and then the command's
abbrev pub anno_line : List NamedValue → List (List ℕ) → List (List ℕ)
anno_line profile words = profile_words (codes "anno") profile ++ words

-- what the words of `anno` say, those of the profile first, or the refusal: of a switch; then of a second folder or of
-- a wrong value, the earlier first; then for want of a field's name, or of something to say under it; and then of a
-- folder's name
abbrev pub anno_said : ℤ → ℤ → List NamedValue → List (List ℕ) → Result AnnoWords Ended
anno_said moment offset profile words = words_said (anno_items moment offset) anno_table (anno_line profile words)
