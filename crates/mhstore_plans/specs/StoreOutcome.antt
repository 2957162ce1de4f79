-- What `mhstore` comes to, by the mailbox. Nothing here knows of steps.
use Rattle.std.specs.Prelude.{ℕ, ◌++◌, Bool, true, false, bytes_eq, List, [], ◌∷◌, length, nat_lt, Option, None, Some, Result, Ok, Err, if◌then◌else◌}
use Rattle.mh_profile.specs.declared.named_value.NamedValue.{NamedValue}
use Rattle.mh_sequences.specs.declared.run.Run.{Run}
use Rattle.mh_sequences.specs.Runs.{numbers_of}
use Rattle.mh_sequences.specs.Sequences.{Marked}
use Rattle.msg_ranges.specs.Selection.{marks_of}
use Rattle.folder_files.specs.declared.place.Place.TheVariants.{Folder}
use Rattle.folder_files.specs.declared.refusal.Refusal.TheVariants as refusal
use Rattle.file_plans.specs.Mailboxes.{Folder as FolderValue, Mailbox}
use Rattle.step_plans.specs.ContextCommit.{LIMIT_BYTES}
use Rattle.step_plans.specs.declared.command_fault.CommandFault.{CommandFault}
use Rattle.step_plans.specs.declared.command_fault.CommandFault.TheVariants as fault
use Rattle.sequence_commits.specs.Cutting.{cut_to}
use Rattle.sequence_commits.specs.Reading.{sequences_in}
use Rattle.command_stages.specs.Chosen.{chosen_in, folder_with}
use Rattle.command_stages.specs.Texts.{too_large}
use Rattle.command_stages.specs.Works.{Work, readable, refused_at}
use Rattle.opening_plans.specs.BegunWork.{current_work, runs_in}
use Rattle.opening_plans.specs.Kept.{Kept, kept_of}
use Rattle.part_rows.specs.Choices.{first_missing}
use Rattle.part_rows.specs.FileNames.{StoredFile, files_of}
use Rattle.part_rows.specs.PartViews.{parts_of}
use Rattle.mhlist_plans.specs.Listing.{no_part}
use Rattle.mhstore_plans.specs.declared.job.StoreJob.{StoreJob}
use Rattle.mh_looks.specs.Outcomes.{text_of}

-- the mailbox with a file of this name and text in the current directory
abbrev pub with_file : List ℕ → List ℕ → Mailbox → Mailbox
with_file name text m = record {
  folders = m.folders;
  home = m.home;
  work = λ x. if bytes_eq name x then Some text else m.work x;
  context = m.context;
  outside = m.outside;
}

-- nothing is left to do
abbrev pub nothing_at : Mailbox → Work CommandFault
nothing_at m = record { text = []; end = Ok tt; mailbox = m }

abbrev pub then_by : Work CommandFault → (Mailbox → Work CommandFault) → Result Unit CommandFault → Work CommandFault
then_by w next (Ok u) =
    record { text = w.text ++ (next w.mailbox).text; end = (next w.mailbox).end; mailbox = (next w.mailbox).mailbox }
then_by w next (Err e) = w

-- a part, and where it is done the next, on the mailbox that it left
abbrev pub then_work : Work CommandFault → (Mailbox → Work CommandFault) → Work CommandFault
then_work w next = then_by w next w.end

-- a file is stored, and its line is said
abbrev pub stored_work : StoredFile → Mailbox → Work CommandFault
stored_work f m = record { text = f.line; end = Ok tt; mailbox = with_file f.name f.content m }

-- the same, unless a file stands there
abbrev pub unless_there : StoredFile → Mailbox → Option (List ℕ) → Work CommandFault
unless_there f m None = stored_work f m
unless_there f m (Some text) = refused_at m (fault.Refused (refusal.WouldReplace f.name))

-- by whether files that stand there are replaced
abbrev pub file_work : Bool → StoredFile → Mailbox → Work CommandFault
file_work true f m = stored_work f m
file_work false f m = unless_there f m (m.work f.name)

-- these files, one after another
unfoldable pub files_work : Bool → List StoredFile → Mailbox → Work CommandFault
files_work clobber [] m = nothing_at m
files_work clobber (f ∷ fs) m = then_work (file_work clobber f m) (files_work clobber fs)

-- the parts of a message are stored, or the first of the wanted ones that it has not is refused
abbrev pub parts_work : StoreJob → ℕ → List ℕ → Mailbox → Option (List ℕ) → Work CommandFault
parts_work job n text m None = files_work job.clobber (files_of n job.parts text) m
parts_work job n text m (Some path) = refused_at m (no_part path)

-- of a message with this text
abbrev pub message_work : StoreJob → ℕ → List ℕ → Mailbox → Work CommandFault
message_work job n text m =
    if nat_lt LIMIT_BYTES (length text) then refused_at m (too_large (length text))
    else parts_work job n text m (first_missing job.parts (parts_of text))

-- these messages, one after another
unfoldable pub messages_work : StoreJob → (ℕ → Option (List ℕ)) → List ℕ → Mailbox → Work CommandFault
messages_work job messages [] m = nothing_at m
messages_work job messages (n ∷ ns) m =
    then_work (message_work job n (text_of messages n) m) (messages_work job messages ns)

-- and then the folder becomes the current one
abbrev pub numbers_work : List ℕ → StoreJob → Kept → (ℕ → Option (List ℕ)) → List ℕ → Work CommandFault
numbers_work path job k messages numbers =
    then_work (messages_work job messages numbers k.mailbox)
    (λ m. current_work path job.folder [] (kept_of m k.entries))

abbrev pub chosen_work : List ℕ → StoreJob → Kept → (ℕ → Option (List ℕ)) → Result (List ℕ) CommandFault
    → Work CommandFault
chosen_work path job k messages (Ok numbers) = numbers_work path job k messages numbers
chosen_work path job k messages (Err e) = refused_at k.mailbox e

-- the messages that the words choose of a folder with these numbers and sequences, or the refusal of the first word
-- that is refused
abbrev pub chosen_from : StoreJob → List Run → Marked → Result (List ℕ) CommandFault
chosen_from job listing m = chosen_in (folder_with job.negation (numbers_of listing) (marks_of m)) job.specs

-- a folder with these messages, whose sequences have this text, or none that can be read
abbrev pub looked_work : List ℕ → StoreJob → Kept → FolderValue → Result (List ℕ) CommandFault → Work CommandFault
looked_work path job k f (Ok text) =
    chosen_work path job k f.messages
    (chosen_from job (runs_in f) (cut_to (runs_in f) (sequences_in text k.entries job.folder)))
looked_work path job k f (Err e) = refused_at k.mailbox e

abbrev pub folder_work : List ℕ → StoreJob → Kept → Option FolderValue → Work CommandFault
folder_work path job k None = refused_at k.mailbox (fault.Refused (refusal.NoFolder job.folder))
folder_work path job k (Some f) = looked_work path job k f (readable f.sequences)

-- `mhstore`, where the context has these entries
unfoldable pub mhstore_work : List ℕ → List NamedValue → StoreJob → Mailbox → Work CommandFault
mhstore_work path entries job m = folder_work path job (kept_of m entries) (m.folders (Folder path job.folder))
