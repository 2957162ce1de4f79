-- The plan of `mhlist`.
use Rattle.std.specs.Prelude.{ℕ, List, [], ◌∷◌, Option, None, Some, Result, Ok, Err}
use Rattle.mh_base.specs.Entries.{entry_text}
use Rattle.mh_base.specs.declared.entry.Entry.TheVariants.{Number, Sequences}
use Rattle.mh_profile.specs.declared.named_value.NamedValue.{NamedValue}
use Rattle.mh_sequences.specs.Runs.{numbers_of}
use Rattle.msg_ranges.specs.Selection.{marks_of}
use Rattle.folder_files.specs.declared.place.Place.{Place}
use Rattle.folder_files.specs.declared.place.Place.TheVariants.{Folder}
use Rattle.folder_files.specs.declared.refusal.Refusal.TheVariants as refusal
use Rattle.file_plans.specs.Asking.{read}
use Rattle.file_plans.specs.Plan.{Return, Recall, lifted, ◌>>=◌}
use Rattle.file_plans.specs.declared.answers.Reading.{Reading}
use Rattle.file_plans.specs.declared.answers.Reading.TheVariants as reading
use Rattle.step_plans.specs.CommandFaults.{of_stop}
use Rattle.step_plans.specs.ContextCommit.{LIMIT_BYTES}
use Rattle.step_plans.specs.declared.command_fault.CommandFault.{CommandFault}
use Rattle.step_plans.specs.declared.command_fault.CommandFault.TheVariants as fault
use Rattle.command_stages.specs.Chosen.{chosen_in, folder_with}
use Rattle.command_stages.specs.Current.{made_current}
use Rattle.command_stages.specs.Listed.{folder_listed}
use Rattle.command_stages.specs.Texts.{Commanded, text_read, too_large}
use Rattle.told_folders.specs.Plans.{lines_said}
use Rattle.told_folders.specs.Tasks.{listed_runs, sequences_listed}
use Rattle.part_rows.specs.Choices.{first_missing}
use Rattle.part_rows.specs.PartViews.{parts_of}
use Rattle.part_rows.specs.PathTexts.{path_text}
use Rattle.part_rows.specs.Rows.{header, rows_of}
use Rattle.mhlist_plans.specs.declared.job.ListJob.{ListJob}
use Rattle.mh_profile.specs.Reading.{entries_seen}

-- the line above the rows is said
abbrev pub header_said : Commanded Unit
header_said = lines_said (header ∷ [])

-- the refusal of a part that is not there
abbrev pub no_part : List ℕ → CommandFault
no_part path = fault.Refused (refusal.NoPart (path_text path))

-- the rows of a message are said, or the first of the wanted parts that it has not is refused
abbrev pub said_unless : List (List ℕ) → ℕ → List ℕ → Option (List ℕ) → Commanded Unit
said_unless wanted n message None = lines_said (rows_of n wanted message)
said_unless wanted n message (Some path) = Return (Err (no_part path))

abbrev pub rows_said : List (List ℕ) → ℕ → List ℕ → Commanded Unit
rows_said wanted n message = said_unless wanted n message (first_missing wanted (parts_of message))

-- by what reading it gave
abbrev pub listed_by : List (List ℕ) → Place → ℕ → Reading → Commanded Unit
listed_by wanted place n (reading.Content bytes) = rows_said wanted n bytes
listed_by wanted place n (reading.Long l) = Return (Err (too_large l))
listed_by wanted place n reading.Gone = Return (Err (fault.Meddled place (entry_text (Number n))))

-- a message is read, and its rows are said
unfoldable pub one_listed : List (List ℕ) → Place → ℕ → Commanded Unit
one_listed wanted place n = do
  reading ← lifted of_stop (read place (entry_text (Number n)) LIMIT_BYTES)
  listed_by wanted place n reading

-- these messages, one after another
unfoldable pub all_listed : List (List ℕ) → Place → List ℕ → Commanded Unit
all_listed wanted place [] = Return (Ok tt)
all_listed wanted place (n ∷ ns) = do
  listed ← one_listed wanted place n
  all_listed wanted place ns

-- the messages that words choose of a folder, by its names, the text of its sequences, of its listed messages alone,
-- and the context
abbrev pub chosen_by : List ℕ → List (List ℕ) → List ℕ → List (List ℕ) → List ℕ → List NamedValue
    → Result (List ℕ) CommandFault
chosen_by folder specs negation names text entries =
    chosen_in
    (folder_with negation (numbers_of (listed_runs names))
    (marks_of (sequences_listed names text entries folder))) specs

-- those that the job's words choose
abbrev pub chosen_seen : ListJob → List (List ℕ) → List ℕ → List NamedValue → Result (List ℕ) CommandFault
chosen_seen job names text entries = chosen_by job.folder job.specs job.negation names text entries

-- `mhlist`: the folder is listed and its sequences are read; the line above the rows is said, and then the rows of the
-- chosen messages; and the folder becomes the current one
unfoldable pub mhlist : ℕ → List ℕ → ListJob → Commanded Unit
mhlist run mail job = do
  names ← folder_listed (Folder mail job.folder) job.folder
  text ← text_read (Folder mail job.folder) (entry_text Sequences)
  numbers ← Recall (λ h. Return (chosen_seen job names text (entries_seen h.context)))
  told ← header_said
  listed ← all_listed job.parts (Folder mail job.folder) numbers
  made_current run mail job.folder
