-- What `pick` comes to, by the mailbox. Nothing here knows of steps.
use Rattle.std.specs.Prelude.{ℕ, Bool, true, false, List, [], ◌∷◌, filter, length, nat_lt, Option, None, Some, Result, Ok, Err, if◌then◌else◌}
use Rattle.mh_profile.specs.declared.named_value.NamedValue.{NamedValue}
use Rattle.mh_sequences.specs.declared.run.Run.{Run}
use Rattle.mh_sequences.specs.Sequences.{Marked}
use Rattle.folder_files.specs.declared.place.Place.TheVariants.{Folder}
use Rattle.folder_files.specs.declared.refusal.Refusal.TheVariants as refusal
use Rattle.file_plans.specs.Mailboxes.{Folder as FolderValue, Mailbox}
use Rattle.step_plans.specs.ContextCommit.{LIMIT_BYTES}
use Rattle.step_plans.specs.declared.command_fault.CommandFault.{CommandFault}
use Rattle.step_plans.specs.declared.command_fault.CommandFault.TheVariants as fault
use Rattle.sequence_commits.specs.Cutting.{cut_to}
use Rattle.sequence_commits.specs.Reading.{sequences_in}
use Rattle.command_stages.specs.Texts.{too_large}
use Rattle.command_stages.specs.Works.{Work, readable, refused_at}
use Rattle.opening_plans.specs.BegunWork.{Homes, after_commits, begun_work, current_work, runs_in}
use Rattle.opening_plans.specs.Kept.{Kept, kept_of, sequences_kept}
use Rattle.told_folders.specs.Outcomes.{joined}
use Rattle.pick_expr.specs.Picks.{picks}
use Rattle.pick_expr.specs.declared.expr.Expr.{Expr}
use Rattle.pick_plans.specs.Lines.{lines_for}
use Rattle.pick_plans.specs.Marking.{marked_for}
use Rattle.pick_plans.specs.Pick.{chosen_from}
use Rattle.pick_plans.specs.declared.job.PickJob.{PickJob}
use Rattle.pick_plans.specs.declared.job.PickMarks.{PickMarks}
use Rattle.mh_looks.specs.Outcomes.{text_of}

-- the text of these lines, where a job lists
abbrev pub text_if : Bool → List (List ℕ) → List ℕ
text_if true lines = joined lines
text_if false lines = []

-- the messages of a folder, by their numbers
abbrev pub messages_of : Option FolderValue → ℕ → Option (List ℕ)
messages_of None n = None
messages_of (Some f) n = f.messages n

-- of these numbers those of whose messages the expression holds
abbrev pub found_in : (ℕ → Option (List ℕ)) → Expr → List ℕ → List ℕ
found_in messages expr numbers = filter (λ n. picks expr (text_of messages n)) numbers

-- the length of the first message that is too long
unfoldable pub too_long_among : (ℕ → Option (List ℕ)) → List ℕ → Option ℕ
too_long_among messages [] = None
too_long_among messages (n ∷ ns) =
    if nat_lt LIMIT_BYTES (length (text_of messages n)) then Some (length (text_of messages n))
    else too_long_among messages ns

-- where no message matches, this is said, where the job lists, and it is refused
abbrev pub unless_none : PickJob → Mailbox → (List ℕ → Work CommandFault) → List ℕ → Work CommandFault
unless_none job m next [] =
    record { text = text_if job.list (lines_for []); end = Err (fault.Refused refusal.NoMatch); mailbox = m }
unless_none job m next (n ∷ ns) = next (n ∷ ns)

abbrev pub unless_long : PickJob → Mailbox → (List ℕ → Work CommandFault) → List ℕ → Option ℕ → Work CommandFault
unless_long job m next found (Some l) = refused_at m (too_large l)
unless_long job m next found None = unless_none job m next found

-- these messages are tested, and the command goes on with those that match
abbrev pub found_work : PickJob → Mailbox → (ℕ → Option (List ℕ)) → (List ℕ → Work CommandFault) → List ℕ
    → Work CommandFault
found_work job m messages next numbers =
    unless_long job m next (found_in messages job.expr numbers) (too_long_among messages numbers)

abbrev pub chosen_work : PickJob → Mailbox → (ℕ → Option (List ℕ)) → (List ℕ → Work CommandFault)
    → Result (List ℕ) CommandFault → Work CommandFault
chosen_work job m messages next (Ok numbers) = found_work job m messages next numbers
chosen_work job m messages next (Err e) = refused_at m e

-- those that match are told, where the job lists, and the folder becomes the current one
abbrev pub told_work : List ℕ → PickJob → Kept → List ℕ → Work CommandFault
told_work path job k found = current_work path job.folder (text_if job.list (lines_for found)) k

-- they are brought into the sequences before
abbrev pub marked_work : List ℕ → PickJob → PickMarks → Marked → Kept → List ℕ → Work CommandFault
marked_work path job p m k found =
    after_commits (sequences_kept path job.folder m (marked_for p found m) k) (λ kept. told_work path job kept found)

-- a folder with these numbers and sequences was begun
abbrev pub opened_work : List ℕ → PickJob → PickMarks → List Run → Marked → Kept → Work CommandFault
opened_work path job p listing m k =
    chosen_work job k.mailbox (messages_of (k.mailbox.folders (Folder path job.folder))) (marked_work path job p m k)
    (chosen_from job listing m)

-- a `pick` that marks
unfoldable pub changes_work : List ℕ → List NamedValue → Homes → PickJob → PickMarks → Mailbox → Work CommandFault
changes_work path entries h job p m = begun_work path job.folder entries h m (opened_work path job p)

-- a folder with these messages, whose sequences have this text, or none that can be read
abbrev pub looked_work : List ℕ → PickJob → Kept → FolderValue → Result (List ℕ) CommandFault → Work CommandFault
looked_work path job k f (Ok text) =
    chosen_work job k.mailbox f.messages (told_work path job k)
    (chosen_from job (runs_in f) (cut_to (runs_in f) (sequences_in text k.entries job.folder)))
looked_work path job k f (Err e) = refused_at k.mailbox e

abbrev pub folder_looked : List ℕ → PickJob → Kept → Option FolderValue → Work CommandFault
folder_looked path job k None = refused_at k.mailbox (fault.Refused (refusal.NoFolder job.folder))
folder_looked path job k (Some f) = looked_work path job k f (readable f.sequences)

-- a `pick` that marks nothing
unfoldable pub looks_work : List ℕ → List NamedValue → PickJob → Mailbox → Work CommandFault
looks_work path entries job m = folder_looked path job (kept_of m entries) (m.folders (Folder path job.folder))

-- `pick`, where the context has these entries, and what was held aside in the folder goes so
abbrev pub work_by : List ℕ → List NamedValue → Homes → PickJob → Mailbox → Option PickMarks → Work CommandFault
work_by path entries h job m None = looks_work path entries job m
work_by path entries h job m (Some p) = changes_work path entries h job p m

unfoldable pub pick_work : List ℕ → List NamedValue → Homes → PickJob → Mailbox → Work CommandFault
pick_work path entries h job m = work_by path entries h job m job.marks
