-- How messages are looked at, by the words, the profile and who calls.
use Rattle.std.specs.Prelude.{◌≡◌, ℕ, Bool, false, List, Option, None, Some, codes, Result, Ok, Err}
use Rattle.std.specs.Str.{encode_utf8_all}
use Rattle.mh_profile.specs.declared.named_value.NamedValue.{NamedValue}
use Rattle.format_compiler.specs.Grammar.{Format}
use Rattle.folder_files.specs.Deeds.{Deed, Once, did}
use Rattle.folder_files.specs.declared.place.FilePath.{FilePath}
use Rattle.folder_files.specs.declared.step.Answer.{Answer}
use Rattle.folder_files.specs.declared.step.Step.TheVariants.{ReadFile}
use Rattle.file_plans.specs.Asking.{reading_of}
use Rattle.file_plans.specs.Plan.{Return, ◌>>=◌}
use Rattle.step_plans.specs.declared.command_fault.CommandFault.{CommandFault}
use Rattle.command_stages.specs.Texts.{Commanded}
use Rattle.message_lines.specs.Finding.{LIMIT_FORMAT, file_read, format_by, format_named}
use Rattle.message_lines.specs.MessageText.{formed, Sight, Writing}
use Rattle.message_lines.specs.declared.standing.Standing.{Standing}
use Rattle.command_words.specs.Ended.{plain}
use Rattle.command_words.specs.SequenceNames.{known_names}
use Rattle.command_words.specs.Words.{profile_words}
use Rattle.command_words.specs.declared.ended.Ended.{Ended}
use Rattle.look_words.specs.declared.look.FormatWords.{FormatWords}
use Rattle.look_words.specs.declared.look.FormatWords.TheVariants.{Default, File, Word}
use Rattle.look_words.specs.declared.look.LookWords.{LookWords}
use Rattle.look_words.specs.declared.scan.ScanWords.{ScanWords}
use Rattle.command_plans.specs.declared.caller.Caller.{Caller}

abbrev pub sight_by : Caller → LookWords → Sight
sight_by caller words = record { width = words.width; moment = caller.clock.moment; user = caller.user }

-- a file below the current directory
abbrev pub below_work : List ℕ → FilePath
below_work path = record { home = false; text = path }

-- what is written of messages: this, or what the format makes of them that this file has
pub data Telling : Type 0 where
  Known : (spoken : Standing → Writing) → Telling
  InFile : (path : FilePath) → (sight : Sight) → Telling

-- what the format makes of a message, or its refusal
abbrev pub known_by : Sight → Result Format CommandFault → Result Telling CommandFault
known_by sight (Ok f) = Ok (Known (formed f sight))
known_by sight (Err e) = Err e

-- by the format that words name, or the refusal; one that is in a file is read later
abbrev pub telling_by : Sight → FormatWords → Result Telling CommandFault
telling_by sight Default = known_by sight (format_named None)
telling_by sight (Word word) = known_by sight (format_named (Some word))
telling_by sight (File path) = Ok (InFile (below_work (encode_utf8_all path)) sight)

abbrev pub telling_of : Caller → LookWords → Result Telling CommandFault
telling_of caller words = telling_by (sight_by caller words) words.format

-- what is written, once the file of the format was read
abbrev pub written_with : Sight → Result Format CommandFault → Result (Standing → Writing) CommandFault
written_with sight (Ok f) = Ok (formed f sight)
written_with sight (Err e) = Err e

abbrev pub written_by : Telling → Answer → Result (Standing → Writing) CommandFault
written_by (Known spoken) a = Ok spoken
written_by (InFile path sight) a = written_with sight (format_by path (reading_of a))

-- the run has read the file of the format, where it is in one, and so this is written of messages
abbrev pub WritesAs : Telling → (Standing → Writing) → List Deed → Type 0
WritesAs (Known known) spoken own = spoken ≡ known
WritesAs (InFile path sight) spoken own =
    (a : Answer) × Once (λ d older. d ≡ did (ReadFile path LIMIT_FORMAT) a) own
    × (written_with sight (format_by path (reading_of a)) ≡ Ok spoken)

-- what is written is found: it is known, or the file of the format is read
unfoldable pub look_found : Telling → Commanded (Standing → Writing)
look_found (Known spoken) = Return (Ok spoken)
look_found (InFile path sight) = do
  f ← file_read path
  Return (Ok (formed f sight))

-- the sequences whose messages are unseen: the names among those of the profile's entry
abbrev pub unseen_known : List NamedValue → List (List ℕ)
unseen_known profile = known_names (profile_words (codes "Unseen-Sequence") profile)

-- what the words of `scan` say, with what is written of messages
pub record ScanAsked : Type 0 where
  pub folder : Option (List ℕ)
  pub specs : List (List ℕ)
  pub reverse : Bool
  pub telling : Telling

abbrev pub asked_by : ScanWords → Result Telling CommandFault → Result ScanAsked Ended
asked_by words (Ok t) = Ok (record { folder = words.folder; specs = words.specs; reverse = words.reverse; telling = t })
asked_by words (Err e) = Err (plain e)

-- the words of `scan`, or the refusal: of a word before that of the format
abbrev pub scan_asked : Caller → Result ScanWords Ended → Result ScanAsked Ended
scan_asked caller (Ok words) = asked_by words (telling_of caller words.look)
scan_asked caller (Err e) = Err e
