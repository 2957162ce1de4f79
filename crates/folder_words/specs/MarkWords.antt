-- What the words of `mark` say.
use Rattle.std.specs.Prelude.{◌++◌, ◌&&◌, ◌||◌, not, codes, ℕ, Bool, true, false, is_none, unwrap_or, List}
use Rattle.std.specs.Prelude.{Option, None, Some, Result, Ok, Err, if◌then◌else◌}
use Rattle.mh_words.specs.declared.item.Item.{Item}
use Rattle.mh_profile.specs.declared.named_value.NamedValue.{NamedValue}
use Rattle.mark_command.specs.declared.job.MarkAct.{MarkAct}
use Rattle.mark_command.specs.declared.job.MarkAct.TheVariants.{Add, Delete, Set, SetOthers}
use Rattle.command_words.specs.Ended.{wrong_at, missing_after}
use Rattle.command_words.specs.FolderWords.{folders, one_folder, folder_named}
use Rattle.command_words.specs.MessageWords.{messages, names_or}
use Rattle.command_words.specs.Saying.{said_unless_refused, said_unless_wrong, words_said}
use Rattle.command_words.specs.SequenceNames.{named_sequences}
use Rattle.command_words.specs.Switches.{last_choice, is_given, values}
use Rattle.folder_words.specs.Tables.{mark_table}
use Rattle.command_words.specs.Words.{profile_words}
use Rattle.command_words.specs.declared.ended.Ended.{Ended}
use Rattle.folder_words.specs.declared.mark.MarkWords.{MarkWords}
use Rattle.folder_words.specs.declared.table.TheConstants.{ADD, DELETE, LIST, SEQUENCE, PUBLIC, NOPUBLIC, ZERO, NOZERO}

-- with `-zero` the sequences have the chosen messages alone
abbrev pub adding : Bool → MarkAct
adding true = Set
adding false = Add

-- with `-zero` they have just the messages that are not chosen
abbrev pub deleting : Bool → MarkAct
deleting true = SetOthers
deleting false = Delete

-- by whether messages are added or taken out; where neither is said, they may be added by default
abbrev pub act_by : Option Bool → Bool → Bool → Option MarkAct
act_by (Some true) by_default zero = Some (adding zero)
act_by (Some false) by_default zero = Some (deleting zero)
act_by None true zero = Some (adding zero)
act_by None false zero = None

-- a sequence is named, and the sequences are not listed
abbrev pub adds_by_default : List Item → Bool
adds_by_default items = is_given SEQUENCE items && not (is_given LIST items)

-- of `-zero` and `-nozero` the last counts
abbrev pub has_zero : List Item → Bool
has_zero items = unwrap_or (last_choice ZERO NOZERO items) false

-- what is done to the sequences: of `-add` and `-delete` the last counts
abbrev pub act_of : List Item → Option MarkAct
act_of items = act_by (last_choice ADD DELETE items) (adds_by_default items) (has_zero items)

-- the messages' names; where there are none, the current message where something is done
abbrev pub specs_of : Option MarkAct → List Item → List (List ℕ)
specs_of (Some act) items = names_or (codes "cur") (messages items)
specs_of None items = messages items

-- what the items say beside the folder and the sequences; where nothing is done, the sequences are listed
abbrev pub words_of : Option (List ℕ) → List (List ℕ) → List Item → MarkWords
words_of folder names items = record {
  folder = folder;
  specs = specs_of (act_of items) items;
  names = names;
  act = act_of items;
  list = is_given LIST items || is_none (act_of items);
  public = last_choice PUBLIC NOPUBLIC items;
}

-- messages are to be added or taken out, and no sequence is named
abbrev pub lacks_sequence : List Item → Bool
lacks_sequence items = (is_given ADD items || is_given DELETE items) && not (is_given SEQUENCE items)

-- with the folder that they name, or the refusal of the first wrong name of a sequence
abbrev pub mark_in_folder : List Item → Option (List ℕ) → Result MarkWords Ended
mark_in_folder items folder =
    said_unless_refused (λ names. Ok (words_of folder names items)) (named_sequences (values SEQUENCE items))

-- a sequence that is missing comes first, then a wrong name of the folder, then one of a sequence
abbrev pub word_said : List (List ℕ) → List Item → Option (List ℕ) → Result MarkWords Ended
word_said words items word =
    if lacks_sequence items then Err (wrong_at words (missing_after words))
    else said_unless_refused (mark_in_folder items) (folder_named word)

-- what the items say
abbrev pub mark_items : List (List ℕ) → List Item → Result MarkWords Ended
mark_items words items = said_unless_wrong (word_said words items) words (one_folder (folders items))

-- the words of the profile's entry, and then the command's
abbrev pub mark_line : List NamedValue → List (List ℕ) → List (List ℕ)
mark_line profile words = profile_words (codes "mark") profile ++ words

-- what the words of `mark` say, those of the profile first, or the refusal: of a switch, then of a second folder, then
-- for want of a sequence, then of a folder's name, then of the first wrong name of a sequence
abbrev pub mark_said : List NamedValue → List (List ℕ) → Result MarkWords Ended
mark_said profile words = words_said mark_items mark_table (mark_line profile words)
