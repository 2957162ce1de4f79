-- What `refile` comes to, by the mailbox. Nothing here knows of steps.
use Rattle.std.specs.Prelude.{◌+◌, ◌++◌, ◌∷◌, [], ℕ, Bool, true, false, List, length, nat_le, Option, None, Some, Result, Ok, Err, if◌then◌else◌}
use Rattle.mh_profile.specs.declared.named_value.NamedValue.{NamedValue}
use Rattle.mh_sequences.specs.Sequences.{Marked}
use Rattle.mh_sequences.specs.declared.run.Run.{Run}
use Rattle.folder_files.specs.declared.place.Place.TheVariants.{Folder}
use Rattle.folder_files.specs.declared.refusal.Refusal.TheVariants as refusal
use Rattle.file_plans.specs.Mailboxes.{Mailbox}
use Rattle.step_plans.specs.declared.command_fault.CommandFault.{CommandFault}
use Rattle.step_plans.specs.declared.command_fault.CommandFault.TheVariants as fault
use Rattle.command_stages.specs.Works.{Work, refused_at}
use Rattle.opening_plans.specs.BegunWork.{AreHomesAt, Homes, after_commits, begun_work, current_work, ended_so}
use Rattle.opening_plans.specs.HomesOf.{homes_at}
use Rattle.opening_plans.specs.Kept.{Kept, all_made, sequences_kept}
use Rattle.message_moves.specs.Copying.{highest_of}
use Rattle.message_moves.specs.declared.destination.Destination.{Destination}
use Rattle.opening_plans.specs.MadeFolder.{or_empty, with_folder_made}
use Rattle.refile_plans.specs.MailMoved.{copied_from, gone_from, mail_moved}
use Rattle.refile_plans.specs.Refile.{greatest_of, names_source, names_without, refile_chosen, targets_of}
use Rattle.refile_plans.specs.Rmm.{withdrawn}
use Rattle.refile_plans.specs.declared.job.RefileJob.{RefileJob}

-- where what is held aside in each folder goes, by the folder's name
abbrev pub HomesOfAll : Type 0
HomesOfAll = List ℕ → Homes

-- so in each folder of the mail directory that is there; one that is missing holds nothing aside
abbrev pub AreHomesOfAll : ℕ → List ℕ → Mailbox → HomesOfAll → Type 0
AreHomesOfAll run path m homes = (name : List ℕ) → AreHomesAt run (or_empty (m.folders (Folder path name))) (homes name)

-- what other runs hold aside in each folder goes where it goes alone
abbrev pub homes_of_all : ℕ → List ℕ → Mailbox → HomesOfAll
homes_of_all run path m name = homes_at run (or_empty (m.folders (Folder path name)))

-- messages go above the highest number of a folder with these numbers
abbrev pub target_of : List ℕ → List ℕ → List Run → Destination
target_of path name listing = record { folder = name; place = Folder path name; highest = greatest_of listing }

-- the folders of these names are made where they are missing, and begun, one after another; the command goes on with
-- all of them, behind those before
unfoldable pub targets_work : List ℕ → HomesOfAll → List (List ℕ) → List Destination → Kept
    → (List Destination → Kept → Work CommandFault) → Work CommandFault
targets_work path homes [] before k next = next before k
targets_work path homes (name ∷ names) before k next =
    begun_work path name k.entries (homes name) (with_folder_made k.mailbox (Folder path name))
    (λ listing m l. targets_work path homes names (before ++ target_of path name listing ∷ []) l next)

-- the source becomes the current folder, where it is to
abbrev pub set_work : Bool → List ℕ → List ℕ → Kept → Work CommandFault
set_work true path source k = current_work path source [] k
set_work false path source k = ended_so [] (all_made k)

-- the messages are in the other folders too; or in these alone, and leave the sequences of the source, which are
-- committed
abbrev pub moved_work : Bool → ℕ → List ℕ → RefileJob → Marked → List ℕ → List Destination → Kept → Work CommandFault
moved_work true run path job m numbers to k =
    after_commits (mail_moved copied_from (Folder path job.source) numbers to k)
    (set_work job.set_current path job.source)
moved_work false run path job m numbers to k =
    after_commits (mail_moved (gone_from run (Folder path job.source)) (Folder path job.source) numbers to k)
    (λ l.
    after_commits (sequences_kept path job.source m (withdrawn numbers m) l)
    (set_work job.set_current path job.source))

-- the first of these folders that has no room for so many messages above its highest number
unfoldable pub first_full : List Destination → ℕ → Option (List ℕ)
first_full [] count = None
first_full (to ∷ others) count =
    if nat_le (highest_of to.highest + count) 999999 then first_full others count else Some to.folder

-- where none is full
abbrev pub room_work : Option (List ℕ) → ℕ → List ℕ → RefileJob → Marked → List ℕ → List Destination → Kept
    → Work CommandFault
room_work None run path job m numbers to k = moved_work job.link run path job m numbers to k
room_work (Some folder) run path job m numbers to k = refused_at k.mailbox (fault.Refused (refusal.Full folder))

-- where none is the source
abbrev pub apart_work : Bool → ℕ → List ℕ → RefileJob → Marked → List ℕ → List Destination → Kept → Work CommandFault
apart_work true run path job m numbers to k = refused_at k.mailbox (fault.Refused (refusal.SameFolder job.source))
apart_work false run path job m numbers to k = room_work (first_full to (length numbers)) run path job m numbers to k

-- the messages that the words choose
abbrev pub said_work : ℕ → List ℕ → RefileJob → Marked → List Destination → Kept → Result (List ℕ) CommandFault
    → Work CommandFault
said_work run path job m to k (Ok numbers) = apart_work (names_source job) run path job m numbers to k
said_work run path job m to k (Err e) = refused_at k.mailbox e

-- the source was begun, with these numbers and sequences: the other folders that the words name are begun too
abbrev pub source_work : ℕ → List ℕ → HomesOfAll → RefileJob → List Run → Marked → Kept → Work CommandFault
source_work run path homes job listing m k =
    targets_work path homes (names_without job.source (targets_of job)) [] k
    (λ to l. said_work run path job m to l (refile_chosen job listing m))

-- `refile` of this run, where the context has these entries, and what was held aside in the folders goes so
unfoldable pub refile_work : ℕ → List ℕ → List NamedValue → HomesOfAll → RefileJob → Mailbox → Work CommandFault
refile_work run path entries homes job m =
    begun_work path job.source entries (homes job.source) m (source_work run path homes job)
