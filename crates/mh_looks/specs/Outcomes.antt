-- What `scan` comes to, by the mailbox. Nothing here knows of steps.
use Rattle.std.specs.Prelude.{ℕ, ◌++◌, List, [], ◌∷◌, Option, None, Some, unwrap_or, nat_lt, length, Result, Ok, Err, if◌then◌else◌}
use Rattle.mh_profile.specs.declared.named_value.NamedValue.{NamedValue}
use Rattle.mh_profile.specs.Printing.{printed}
use Rattle.folder_files.specs.declared.place.Place.TheVariants.{Folder, Mail}
use Rattle.folder_files.specs.declared.refusal.Refusal.TheVariants as refusal
use Rattle.file_plans.specs.MailboxChanges.{with_context_text}
use Rattle.file_plans.specs.Mailboxes.{Folder as FolderValue, Mailbox, numbers_of}
use Rattle.step_plans.specs.ContextCommit.{LIMIT_BYTES, changed, says}
use Rattle.step_plans.specs.declared.command_fault.CommandFault.{CommandFault}
use Rattle.step_plans.specs.declared.command_fault.CommandFault.TheVariants as fault
use Rattle.command_stages.specs.Chosen.{chosen_in, folder_with, marks_in}
use Rattle.command_stages.specs.Texts.{too_large}
use Rattle.command_stages.specs.Works.{Work, refused_at, readable}
use Rattle.command_stages.specs.Current.{current_change}
use Rattle.message_lines.specs.MessageText.{line_of, Writing}
use Rattle.mh_looks.specs.Scan.{lined_by, ordered}
use Rattle.mh_looks.specs.ScanJob.{ScanJob}

-- the text of the context in which the folder is the current one
abbrev pub current_text : List NamedValue → List ℕ → List ℕ
current_text entries folder = printed (changed (current_change folder) entries)

-- the folder becomes the current one, unless the context is too long with it
abbrev pub written_current : Mailbox → List ℕ → List ℕ → List ℕ → Work CommandFault
written_current m path text written =
    if nat_lt LIMIT_BYTES (length text) then record { text = written; end = Err (too_large (length text)); mailbox = m }
    else record { text = written; end = Ok tt; mailbox = with_context_text m (Mail path) text }

-- all of this was written; the context says so, or it is written
abbrev pub made_current : Mailbox → List ℕ → List NamedValue → List ℕ → List ℕ → Work CommandFault
made_current m path entries folder written =
    if says entries (current_change folder) then record { text = written; end = Ok tt; mailbox = m }
    else written_current m path (current_text entries folder) written

abbrev pub text_of : (ℕ → Option (List ℕ)) → ℕ → List ℕ
text_of messages n = unwrap_or (messages n) []

-- a line for each of these messages, up to the first that is too long
unfoldable pub lines_of : Writing → (ℕ → Option (List ℕ)) → List ℕ → List ℕ
lines_of lined messages [] = []
lines_of lined messages (n ∷ ns) =
    if nat_lt LIMIT_BYTES (length (text_of messages n)) then []
    else line_of lined n (text_of messages n) ++ lines_of lined messages ns

-- the length of the first message that is too long
unfoldable pub too_long_of : (ℕ → Option (List ℕ)) → List ℕ → Option ℕ
too_long_of messages [] = None
too_long_of messages (n ∷ ns) =
    if nat_lt LIMIT_BYTES (length (text_of messages n)) then Some (length (text_of messages n))
    else too_long_of messages ns

abbrev pub lines_written : Mailbox → List ℕ → List NamedValue → List ℕ → List ℕ → Option ℕ → Work CommandFault
lines_written m path entries folder lines (Some l) = record { text = lines; end = Err (too_large l); mailbox = m }
lines_written m path entries folder lines None = made_current m path entries folder lines

abbrev pub numbers_shown : Writing → Mailbox → List ℕ → List NamedValue → List ℕ → (ℕ → Option (List ℕ)) → List ℕ
    → Work CommandFault
numbers_shown lined m path entries folder messages numbers =
    lines_written m path entries folder (lines_of lined messages numbers) (too_long_of messages numbers)

abbrev pub chosen_shown : Writing → Mailbox → List ℕ → List NamedValue → ScanJob → FolderValue
    → Result (List ℕ) CommandFault → Work CommandFault
chosen_shown lined m path entries job f (Ok numbers) =
    numbers_shown lined m path entries job.folder f.messages (ordered job.reverse numbers)
chosen_shown lined m path entries job f (Err e) = refused_at m e

abbrev pub sequences_read : Mailbox → List ℕ → List NamedValue → ScanJob → FolderValue → Result (List ℕ) CommandFault
    → Work CommandFault
sequences_read m path entries job f (Ok text) =
    chosen_shown (lined_by job text entries) m path entries job f
    (chosen_in (folder_with job.negation (numbers_of f) (marks_in text entries job.folder)) job.specs)
sequences_read m path entries job f (Err e) = refused_at m e

abbrev pub folder_shown : Mailbox → List ℕ → List NamedValue → ScanJob → Option FolderValue → Work CommandFault
folder_shown m path entries job None = refused_at m (fault.Refused (refusal.NoFolder job.folder))
folder_shown m path entries job (Some f) = sequences_read m path entries job f (readable f.sequences)

-- `scan`, where the context has these entries
unfoldable pub scan_work : List ℕ → List NamedValue → ScanJob → Mailbox → Work CommandFault
scan_work path entries job m = folder_shown m path entries job (m.folders (Folder path job.folder))
