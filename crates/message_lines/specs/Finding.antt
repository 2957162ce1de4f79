-- The plan by which the format is found that words name.
use Rattle.std.specs.Prelude.{◌≡◌, ℕ, List, codes, nat_lt, length, Option, None, Some, Result, Ok, Err, if◌then◌else◌}
use Rattle.std.specs.Str.{encode_utf8_all}
use Rattle.format_compiler.specs.declared.instruction.Instruction.{Instruction}
use Rattle.format_compiler.specs.Code.{IsCodeOf}
use Rattle.format_compiler.specs.FormatOf.{format_of}
use Rattle.format_compiler.specs.Grammar.{Format}
use Rattle.folder_files.specs.declared.place.FilePath.{FilePath}
use Rattle.folder_files.specs.declared.refusal.Refusal.TheVariants as refusal
use Rattle.file_plans.specs.Asking.{read_file}
use Rattle.file_plans.specs.Follows.{State, Follows}
use Rattle.file_plans.specs.Plan.{Return, lifted, ◌>>=◌}
use Rattle.file_plans.specs.declared.answers.Reading.{Reading}
use Rattle.file_plans.specs.declared.answers.Reading.TheVariants as reading
use Rattle.step_plans.specs.CommandFaults.{command_cause, of_stop}
use Rattle.step_plans.specs.declared.command_fault.CommandFault.{CommandFault}
use Rattle.step_plans.specs.declared.command_fault.CommandFault.TheVariants as fault
use Rattle.command_stages.specs.Texts.{Commanded}
use Rattle.command_stages.specs.Values.{IsErrorOf}
use Rattle.message_lines.specs.declared.format.LineFormat.{LineFormat}
use Rattle.message_lines.specs.declared.format.LineFormat.TheVariants.{Default, File, Word}

-- the format of a line without words that name one: the number, `+` at the current message, `-` where the message was
-- answered or else `E` where it is enciphered, the month and the day, `*` where there is no date, who sent it, the
-- subject, and the body's begin
abbrev pub default_text : List ℕ
default_text =
    codes "%4(msg)%<(cur)+%| %>%<{replied}-%?{encrypted}E%| %>%02(mon{date})/%02(mday{date})%<{date} %|*%>%17(decode(friendly{from}))  %(decode{subject})%<{body}<<%{body}%>"

-- the longest format, in bytes
abbrev pub LIMIT_FORMAT : ℕ
LIMIT_FORMAT = 65536

-- the format that was read, or the refusal of its text from the byte on at which it is wrong
abbrev pub wrong_at : Result Format ℕ → Result Format CommandFault
wrong_at (Ok f) = Ok f
wrong_at (Err at) = Err (fault.Refused (refusal.BadFormat at))

-- the format of a text, or the refusal with the byte at which it is wrong
abbrev pub format_in : List ℕ → Result Format CommandFault
format_in text = wrong_at (format_of text)

-- the refusal of a format of this length, which is too long
abbrev pub long_format : ℕ → CommandFault
long_format l = fault.Refused (refusal.TooLarge l LIMIT_FORMAT)

-- where the text is not too long
abbrev pub format_within : List ℕ → Result Format CommandFault
format_within text = if nat_lt LIMIT_FORMAT (length text) then Err (long_format (length text)) else format_in text

-- the format of a word, where there is one
abbrev pub format_named : Option (List ℕ) → Result Format CommandFault
format_named None = format_in default_text
format_named (Some word) = format_within (encode_utf8_all word)

-- the format of a file that was read
abbrev pub format_by : FilePath → Reading → Result Format CommandFault
format_by path (reading.Content text) = format_in text
format_by path (reading.Long l) = Err (long_format l)
format_by path reading.Gone = Err (fault.Refused (refusal.NoFile path))

-- reads the format of a file
unfoldable pub file_read : FilePath → Commanded Format
file_read path = do
  reading ← lifted of_stop (read_file path LIMIT_FORMAT)
  Return (format_by path reading)

-- the format that words name
abbrev pub format_found : LineFormat → Commanded Format
format_found Default = Return (format_named None)
format_found (Word word) = Return (format_named (Some word))
format_found (File path) = file_read path

-- the program is the code of this format; or this is the refusal, or there was not enough memory
abbrev pub IsIn : Result Format CommandFault → Result (List Instruction) CommandFault → Type 0
IsIn value (Ok program) = (f : Format) × (value ≡ Ok f) × IsCodeOf program f
IsIn value (Err e) = IsErrorOf value e

-- the plan found a format, whose code the program is; or it ended by this fault
abbrev pub Finds : ℕ → Commanded Format → State → State → Result (List Instruction) CommandFault → Type 0
Finds run plan x y (Ok program) = (f : Format) × IsCodeOf program f × Follows run command_cause plan x y (Ok f)
Finds run plan x y (Err e) = Follows run command_cause plan x y (Err e)
