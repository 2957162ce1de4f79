-- What `mhlist` comes to, by the mailbox. Nothing here knows of steps.
use Rattle.std.specs.Prelude.{ℕ, ◌++◌, List, [], ◌∷◌, length, nat_lt, option_map, Option, None, Some, Result, Ok, Err, if◌then◌else◌}
use Rattle.mh_profile.specs.declared.named_value.NamedValue.{NamedValue}
use Rattle.mh_sequences.specs.declared.run.Run.{Run}
use Rattle.mh_sequences.specs.Runs.{numbers_of}
use Rattle.mh_sequences.specs.Sequences.{Marked}
use Rattle.msg_ranges.specs.Selection.{marks_of}
use Rattle.folder_files.specs.declared.place.Place.TheVariants.{Folder}
use Rattle.folder_files.specs.declared.refusal.Refusal.TheVariants as refusal
use Rattle.file_plans.specs.Mailboxes.{Folder as FolderValue, Mailbox}
use Rattle.step_plans.specs.ContextCommit.{LIMIT_BYTES}
use Rattle.step_plans.specs.declared.command_fault.CommandFault.{CommandFault}
use Rattle.step_plans.specs.declared.command_fault.CommandFault.TheVariants as fault
use Rattle.sequence_commits.specs.Cutting.{cut_to}
use Rattle.sequence_commits.specs.Reading.{sequences_in}
use Rattle.command_stages.specs.Chosen.{chosen_in, folder_with}
use Rattle.command_stages.specs.Texts.{too_large}
use Rattle.command_stages.specs.Works.{Work, readable, refused_at}
use Rattle.opening_plans.specs.BegunWork.{current_work, runs_in}
use Rattle.opening_plans.specs.Kept.{Kept, kept_of}
use Rattle.told_folders.specs.Outcomes.{joined}
use Rattle.part_rows.specs.Choices.{first_missing}
use Rattle.part_rows.specs.PartViews.{parts_of}
use Rattle.part_rows.specs.Rows.{header, rows_of}
use Rattle.mhlist_plans.specs.Listing.{no_part}
use Rattle.mhlist_plans.specs.declared.job.ListJob.{ListJob}
use Rattle.mh_looks.specs.Outcomes.{text_of}

-- why a message with this text isn't listed: it is too long, or lacks a part that is wanted; of these the first counts
abbrev pub refused_text : List (List ℕ) → List ℕ → Option CommandFault
refused_text wanted text =
    if nat_lt LIMIT_BYTES (length text) then Some (too_large (length text))
    else option_map no_part (first_missing wanted (parts_of text))

abbrev pub first_of : Option CommandFault → Option CommandFault → Option CommandFault
first_of (Some e) later = Some e
first_of None later = later

-- why the first of these messages isn't listed that isn't
unfoldable pub first_refused : List (List ℕ) → (ℕ → Option (List ℕ)) → List ℕ → Option CommandFault
first_refused wanted messages [] = None
first_refused wanted messages (n ∷ ns) =
    first_of (refused_text wanted (text_of messages n)) (first_refused wanted messages ns)

abbrev pub unless_refused : Option CommandFault → List ℕ → List ℕ
unless_refused (Some e) rows = []
unless_refused None rows = rows

-- the rows of these messages, up to that one
unfoldable pub rows_among : List (List ℕ) → (ℕ → Option (List ℕ)) → List ℕ → List ℕ
rows_among wanted messages [] = []
rows_among wanted messages (n ∷ ns) =
    unless_refused (refused_text wanted (text_of messages n))
    (joined (rows_of n wanted (text_of messages n)) ++ rows_among wanted messages ns)

-- all that is written of these messages
abbrev pub list_text : ListJob → (ℕ → Option (List ℕ)) → List ℕ → List ℕ
list_text job messages numbers = header ++ rows_among job.parts messages numbers

abbrev pub unless_stopped : List ℕ → ListJob → Kept → List ℕ → Option CommandFault → Work CommandFault
unless_stopped path job k text (Some e) = record { text = text; end = Err e; mailbox = k.mailbox }
unless_stopped path job k text None = current_work path job.folder text k

-- they are listed, and the folder becomes the current one
abbrev pub numbers_work : List ℕ → ListJob → Kept → (ℕ → Option (List ℕ)) → List ℕ → Work CommandFault
numbers_work path job k messages numbers =
    unless_stopped path job k (list_text job messages numbers) (first_refused job.parts messages numbers)

abbrev pub chosen_work : List ℕ → ListJob → Kept → (ℕ → Option (List ℕ)) → Result (List ℕ) CommandFault
    → Work CommandFault
chosen_work path job k messages (Ok numbers) = numbers_work path job k messages numbers
chosen_work path job k messages (Err e) = refused_at k.mailbox e

-- the messages that the words choose of a folder with these numbers and sequences, or the refusal of the first word
-- that is refused
abbrev pub chosen_from : ListJob → List Run → Marked → Result (List ℕ) CommandFault
chosen_from job listing m = chosen_in (folder_with job.negation (numbers_of listing) (marks_of m)) job.specs

-- a folder with these messages, whose sequences have this text, or none that can be read
abbrev pub looked_work : List ℕ → ListJob → Kept → FolderValue → Result (List ℕ) CommandFault → Work CommandFault
looked_work path job k f (Ok text) =
    chosen_work path job k f.messages
    (chosen_from job (runs_in f) (cut_to (runs_in f) (sequences_in text k.entries job.folder)))
looked_work path job k f (Err e) = refused_at k.mailbox e

abbrev pub folder_work : List ℕ → ListJob → Kept → Option FolderValue → Work CommandFault
folder_work path job k None = refused_at k.mailbox (fault.Refused (refusal.NoFolder job.folder))
folder_work path job k (Some f) = looked_work path job k f (readable f.sequences)

-- `mhlist`, where the context has these entries
unfoldable pub mhlist_work : List ℕ → List NamedValue → ListJob → Mailbox → Work CommandFault
mhlist_work path entries job m = folder_work path job (kept_of m entries) (m.folders (Folder path job.folder))
