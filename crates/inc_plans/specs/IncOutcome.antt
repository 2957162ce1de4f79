-- What `inc` comes to, by the mailbox. Nothing here knows of steps.
use Rattle.std.specs.Prelude.{◌==◌, ◌+◌, ◌++◌, ◌∷◌, [], ℕ, Bool, true, false, List, length, nat_le, nat_lt, Option, None, Some, Ok, if◌then◌else◌}
use Rattle.mbox_drop.specs.Drops.{is_drop, messages}
use Rattle.mbox_drop.specs.Long.{first_long}
use Rattle.mh_profile.specs.declared.named_value.NamedValue.{NamedValue}
use Rattle.mh_sequences.specs.Sequences.{Marked}
use Rattle.mh_sequences.specs.declared.run.Run.{Run}
use Rattle.folder_files.specs.Places.{same_path}
use Rattle.folder_files.specs.declared.place.FilePath.{FilePath}
use Rattle.folder_files.specs.declared.place.Place.TheVariants.{Folder}
use Rattle.folder_files.specs.declared.refusal.Refusal.TheVariants as refusal
use Rattle.file_plans.specs.MailboxChanges.{folder_with}
use Rattle.file_plans.specs.Mailboxes.{Folder as FolderValue, Mailbox}
use Rattle.step_plans.specs.declared.command_fault.CommandFault.{CommandFault}
use Rattle.step_plans.specs.declared.command_fault.CommandFault.TheVariants as fault
use Rattle.held_messages.specs.HeldPairs.{with_folder_changed}
use Rattle.sequence_commits.specs.Marking.{marked_by_all}
use Rattle.command_stages.specs.Current.{current_change}
use Rattle.command_stages.specs.Works.{Work, refused_at}
use Rattle.message_lines.specs.MessageText.{line_of, Writing}
use Rattle.opening_plans.specs.BegunWork.{Homes, after_commits, begun_work}
use Rattle.opening_plans.specs.Kept.{Kept, context_kept, kept_of, sequences_kept}
use Rattle.inc_plans.specs.Counting.{LIMIT, LONGEST}
use Rattle.inc_plans.specs.Inc.{heading, new_marks, telling_of, top_of}
use Rattle.inc_plans.specs.IncJob.{IncJob}
use Rattle.mh_base.specs.Numbers.{numbers_up}
use Rattle.opening_plans.specs.MadeFolder.{with_folder_made}

-- the folder with these messages too, one behind the other from this number on
unfoldable pub with_messages : ℕ → List (List ℕ) → FolderValue → FolderValue
with_messages n [] f = f
with_messages n (message ∷ more) f = with_messages (n + 1) more (folder_with n message f)

-- their lines
unfoldable pub lines_from : Writing → ℕ → List (List ℕ) → List ℕ
lines_from line n [] = []
lines_from line n (message ∷ more) = line_of line n message ++ lines_from line (n + 1) more

-- the heading and the lines, where they are written
abbrev pub text_unless : Bool → List ℕ → Writing → ℕ → List (List ℕ) → List ℕ
text_unless true folder line n mail = []
text_unless false folder line n mail = heading folder ++ lines_from line n mail

-- the outside file at this path is cut to nothing, where it is there
abbrev pub emptied : Option (List ℕ) → Option (List ℕ)
emptied None = None
emptied (Some bytes) = Some []

abbrev pub with_drop_cut : Bool → FilePath → Mailbox → Mailbox
with_drop_cut false path m = m
with_drop_cut true path m = record {
  folders = m.folders;
  home = m.home;
  work = m.work;
  context = m.context;
  outside = λ f. if same_path path f then emptied (m.outside f) else m.outside f;
}

-- the text was written before
abbrev pub behind : List ℕ → Work CommandFault → Work CommandFault
behind text w = record { text = text ++ w.text; end = w.end; mailbox = w.mailbox }

-- the drop is cut at last, where it is to be
abbrev pub cut_work : IncJob → Kept → Work CommandFault
cut_work job k = record { text = []; end = Ok tt; mailbox = with_drop_cut job.truncate job.drop k.mailbox }

-- the new messages are marked, the folder becomes the current one, and the drop is cut
abbrev pub marked_work : List ℕ → IncJob → Marked → List ℕ → Kept → Work CommandFault
marked_work path job m numbers k =
    after_commits (sequences_kept path job.folder m (marked_by_all (new_marks job numbers) m) k)
    (λ l. after_commits (context_kept path (current_change job.folder) l) (cut_work job))

abbrev pub stored_in : List ℕ → IncJob → ℕ → List (List ℕ) → Kept → Kept
stored_in path job n mail k =
    kept_of (with_folder_changed k.mailbox (Folder path job.folder) (with_messages n mail)) k.entries

-- the messages stand from this number on
abbrev pub taken_work : List ℕ → IncJob → ℕ → List (List ℕ) → Marked → Kept → Work CommandFault
taken_work path job n mail m k =
    behind (text_unless job.silent job.folder ((telling_of job m.cur).line n) n mail)
    (marked_work path job m (numbers_up n (length mail)) (stored_in path job n mail k))

-- where there is room above the highest number
abbrev pub room_work : Bool → List ℕ → IncJob → ℕ → List (List ℕ) → Marked → Kept → Work CommandFault
room_work true path job top mail m k = taken_work path job (top + 1) mail m k
room_work false path job top mail m k = refused_at k.mailbox (fault.Refused (refusal.Full job.folder))

-- where no message is too long
abbrev pub short_work : Option ℕ → List ℕ → IncJob → ℕ → List (List ℕ) → Marked → Kept → Work CommandFault
short_work None path job top mail m k = room_work (nat_le (top + length mail) 999999) path job top mail m k
short_work (Some l) path job top mail m k = refused_at k.mailbox (fault.Refused (refusal.TooLarge l LIMIT))

-- where it is a drop
abbrev pub drop_work : Bool → List ℕ → IncJob → ℕ → List (List ℕ) → Marked → Kept → Work CommandFault
drop_work true path job top mail m k = short_work (first_long mail) path job top mail m k
drop_work false path job top mail m k = refused_at k.mailbox (fault.Refused refusal.NotADrop)

-- where it is neither empty nor too long
abbrev pub bytes_work : List ℕ → IncJob → ℕ → List ℕ → Marked → Kept → Work CommandFault
bytes_work path job top bytes m k =
    if length bytes == 0 then refused_at k.mailbox (fault.Refused refusal.NoMail)
    else (if nat_lt LONGEST (length bytes)
    then refused_at k.mailbox (fault.Refused (refusal.TooLarge (length bytes) LONGEST))
    else drop_work (is_drop bytes) path job top (messages bytes) m k)

-- where there is a file
abbrev pub file_work : List ℕ → IncJob → ℕ → Option (List ℕ) → Marked → Kept → Work CommandFault
file_work path job top None m k = refused_at k.mailbox (fault.Refused refusal.NoMail)
file_work path job top (Some bytes) m k = bytes_work path job top bytes m k

-- of a folder with these numbers and sequences
abbrev pub opened_work : List ℕ → IncJob → List Run → Marked → Kept → Work CommandFault
opened_work path job listing m k = file_work path job (top_of listing) (k.mailbox.outside job.drop) m k

-- `inc`, where the context has these entries, and what was held aside in the folder goes so: the folder is made where
-- it is missing
unfoldable pub inc_work : List ℕ → List NamedValue → Homes → IncJob → Mailbox → Work CommandFault
inc_work path entries h job m =
    begun_work path job.folder entries h (with_folder_made m (Folder path job.folder)) (opened_work path job)
