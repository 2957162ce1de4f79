-- The plan of `scan`.
use Rattle.std.specs.Prelude.{ℕ, Bool, true, false, List, [], ◌∷◌, reverse, Result, Ok, Err}
use Rattle.mh_base.specs.Entries.{entry_text}
use Rattle.mh_base.specs.declared.entry.Entry.TheVariants.{Number, Sequences}
use Rattle.mh_profile.specs.declared.named_value.NamedValue.{NamedValue}
use Rattle.folder_files.specs.declared.place.Place.{Place}
use Rattle.folder_files.specs.declared.place.Place.TheVariants.{Folder}
use Rattle.file_plans.specs.Asking.{read}
use Rattle.file_plans.specs.Plan.{Return, Recall, lifted, say, ◌>>=◌}
use Rattle.file_plans.specs.declared.answers.Reading.{Reading}
use Rattle.file_plans.specs.declared.answers.Reading.TheVariants as reading
use Rattle.step_plans.specs.CommandFaults.{of_stop, of_sink}
use Rattle.step_plans.specs.ContextCommit.{LIMIT_BYTES}
use Rattle.step_plans.specs.declared.command_fault.CommandFault.{CommandFault}
use Rattle.step_plans.specs.declared.command_fault.CommandFault.TheVariants as fault
use Rattle.command_stages.specs.Chosen.{chosen_in, folder_with, marks_in}
use Rattle.command_stages.specs.Listed.{folder_listed, numbers_listed}
use Rattle.command_stages.specs.Texts.{Commanded, text_read, too_large}
use Rattle.command_stages.specs.Current.{made_current}
use Rattle.msg_ranges.specs.Selection.{Marks}
use Rattle.message_lines.specs.MessageText.{line_of, Writing}
use Rattle.message_lines.specs.Standings.{is_at, is_marked_in}
use Rattle.message_lines.specs.declared.standing.Standing.{Standing}
use Rattle.mh_looks.specs.ScanJob.{ScanJob}
use Rattle.mh_profile.specs.Reading.{entries_seen}

-- a message is the current one by the folder's marks, and unseen where one of these sequences has it
abbrev pub standing_by : Marks → List (List ℕ) → ℕ → Standing
standing_by marks unseen n = record { current = is_at marks.cur n; unseen = is_marked_in marks.has unseen n }

-- what is written of a message that stands so
abbrev pub written_by : (Standing → Writing) → Marks → List (List ℕ) → Writing
written_by spoken marks unseen n message = spoken (standing_by marks unseen n) n message

-- the line of a message that was read
abbrev pub shown_by : Writing → Place → ℕ → Reading → Commanded Unit
shown_by lined place n (reading.Content bytes) = do
  told ← lifted of_sink (say (line_of lined n bytes))
  Return (Ok tt)
shown_by lined place n (reading.Long l) = Return (Err (too_large l))
shown_by lined place n reading.Gone = Return (Err (fault.Meddled place (entry_text (Number n))))

-- a message is read, and its line is written
unfoldable pub one_shown : Writing → Place → ℕ → Commanded Unit
one_shown lined place n = do
  reading ← lifted of_stop (read place (entry_text (Number n)) LIMIT_BYTES)
  shown_by lined place n reading

-- these messages, one after another
unfoldable pub all_shown : Writing → Place → List ℕ → Commanded Unit
all_shown lined place [] = Return (Ok tt)
all_shown lined place (n ∷ ns) = do
  shown ← one_shown lined place n
  all_shown lined place ns

-- descending, or as they are
abbrev pub ordered : Bool → List ℕ → List ℕ
ordered true numbers = reverse numbers
ordered false numbers = numbers

-- the messages that the job's words choose, by the folder's names and its marks
abbrev pub chosen_with : ScanJob → List (List ℕ) → Marks → Result (List ℕ) CommandFault
chosen_with job names marks = chosen_in (folder_with job.negation (numbers_listed names) marks) job.specs

-- its marks are those of the text of its sequences and of the context
abbrev pub chosen_by : ScanJob → List (List ℕ) → List ℕ → List NamedValue → Result (List ℕ) CommandFault
chosen_by job names text entries = chosen_with job names (marks_in text entries job.folder)

-- what is written of its messages
abbrev pub lined_by : ScanJob → List ℕ → List NamedValue → Writing
lined_by job text entries = written_by job.spoken (marks_in text entries job.folder) job.unseen

-- `scan`: the folder is listed and its sequences are read; the chosen messages are shown; and the folder becomes the
-- current one
unfoldable pub scan : ℕ → List ℕ → ScanJob → Commanded Unit
scan run mail job = do
  names ← folder_listed (Folder mail job.folder) job.folder
  text ← text_read (Folder mail job.folder) (entry_text Sequences)
  numbers ← Recall (λ h. Return (chosen_by job names text (entries_seen h.context)))
  shown ← Recall
      (λ h.
      all_shown (lined_by job text (entries_seen h.context)) (Folder mail job.folder) (ordered job.reverse numbers))
  made_current run mail job.folder
