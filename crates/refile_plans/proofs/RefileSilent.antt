-- `refile` writes nothing.
use Rattle.std.proofs.Common.{◌≡◌, ◌++◌, ◌∷◌, [], ℕ, Bool, true, false, List, Option, Some, None, Result, Ok, Err, length, refl}
use Rattle.mh_profile.specs.declared.named_value.NamedValue.{NamedValue}
use Rattle.mh_sequences.specs.Sequences.{Marked}
use Rattle.mh_sequences.specs.declared.run.Run.{Run}
use Rattle.folder_files.specs.declared.place.Place.TheVariants.{Folder}
use Rattle.file_plans.specs.Mailboxes.{Folder as FolderValue, Mailbox}
use Rattle.step_plans.specs.declared.command_fault.CommandFault.{CommandFault}
use Rattle.held_messages.specs.HeldPairs.{with_folder_changed}
use Rattle.sequence_commits.specs.Cutting.{cut_to}
use Rattle.sequence_commits.specs.Reading.{sequences_in}
use Rattle.command_stages.specs.Works.{Work, readable}
use Rattle.opening_plans.specs.BegunWork.{Homes, after_commits, begun_work, folder_work, runs_in, settled_by, text_work, unless_long}
use Rattle.opening_plans.specs.Kept.{Commits, Kept, kept_of, sequences_kept}
use Rattle.message_moves.specs.declared.destination.Destination.{Destination}
use Rattle.opening_plans.specs.MadeFolder.{with_folder_made}
use Rattle.refile_plans.specs.MailMoved.{copied_from, gone_from, mail_moved}
use Rattle.refile_plans.specs.Refile.{names_source, names_without, refile_chosen, targets_of}
use Rattle.refile_plans.specs.RefileOutcome.{HomesOfAll, apart_work, first_full, moved_work, refile_work, room_work, said_work, set_work, target_of, targets_work}
use Rattle.refile_plans.specs.Rmm.{withdrawn}
use Rattle.refile_plans.specs.declared.job.RefileJob.{RefileJob}

-- no text comes of it, whatever is kept
abbrev IsSilent : (Kept → Work CommandFault) → Type 0
IsSilent next = (k : Kept) → (next k).text ≡ []

-- whether a text was too long or not
long_silent : (o : Option ℕ) (k : Kept) (next : Kept → Work CommandFault) → IsSilent next → (unless_long o k next).text ≡ []
long_silent None k next f = f k
long_silent (Some l) k next f = refl

after_silent : (c : Commits) (next : Kept → Work CommandFault) → IsSilent next → (after_commits c next).text ≡ []
after_silent c next f = long_silent c.long c.kept next f

-- whatever was begun
abbrev AllSilent : (List Run → Marked → Kept → Work CommandFault) → Type 0
AllSilent next = (listing : List Run) (m : Marked) → IsSilent (next listing m)

-- whatever text the folder has
text_silent : (path folder : List ℕ) (entries : List NamedValue) (listing : List Run) (m : Mailbox) (r : Result (List ℕ) CommandFault) (next : List Run → Marked → Kept → Work CommandFault) → AllSilent next → (text_work path folder entries listing m r next).text ≡ []
text_silent path folder entries listing m (Err e) next f = refl
text_silent path folder entries listing m (Ok text) next f =
    after_silent (sequences_kept path folder (sequences_in text entries folder) (cut_to listing (sequences_in text entries folder)) (kept_of m entries)) (next listing (cut_to listing (sequences_in text entries folder))) (f listing (cut_to listing (sequences_in text entries folder)))

-- whether it is there or not
folder_silent : (path folder : List ℕ) (entries : List NamedValue) (h : Homes) (m : Mailbox) (o : Option FolderValue) (next : List Run → Marked → Kept → Work CommandFault) → AllSilent next → (folder_work path folder entries h m o next).text ≡ []
folder_silent path folder entries h m None next f = refl
folder_silent path folder entries h m (Some v) next f = text_silent path folder entries (runs_in (settled_by h v)) (with_folder_changed m (Folder path folder) (settled_by h)) (readable v.sequences) next f

-- a folder that is begun
begun_silent : (path folder : List ℕ) (entries : List NamedValue) (h : Homes) (m : Mailbox) (next : List Run → Marked → Kept → Work CommandFault) → AllSilent next → (begun_work path folder entries h m next).text ≡ []
unfolding begun_work
begun_silent path folder entries h m next f = folder_silent path folder entries h m (m.folders (Folder path folder)) next f

-- folders one after another
targets_silent : (path : List ℕ) (homes : HomesOfAll) (names : List (List ℕ)) (before : List Destination) (k : Kept) (next : List Destination → Kept → Work CommandFault) → ((to : List Destination) → IsSilent (next to)) → (targets_work path homes names before k next).text ≡ []
unfolding targets_work
targets_silent path homes [] before k next f = f before k
targets_silent path homes (name ∷ names) before k next f =
    begun_silent path name k.entries (homes name) (with_folder_made k.mailbox (Folder path name)) (λ listing m l. targets_work path homes names (before ++ target_of path name listing ∷ []) l next)
    (λ listing m l. targets_silent path homes names (before ++ target_of path name listing ∷ []) l next f)

-- the current folder
set_silent : (b : Bool) (path source : List ℕ) → IsSilent (set_work b path source)
set_silent true path source k = refl
set_silent false path source k = refl

module _ (run : ℕ) (path : List ℕ) (job : RefileJob) (m : Marked) (numbers : List ℕ) (to : List Destination) (k : Kept) where
  -- messages that go
  moved_silent : (b : Bool) → (moved_work b run path job m numbers to k).text ≡ []
  moved_silent true = after_silent (mail_moved copied_from (Folder path job.source) numbers to k) (set_work job.set_current path job.source) (set_silent job.set_current path job.source)
  moved_silent false =
      after_silent (mail_moved (gone_from run (Folder path job.source)) (Folder path job.source) numbers to k)
      (λ l. after_commits (sequences_kept path job.source m (withdrawn numbers m) l) (set_work job.set_current path job.source))
      (λ l. after_silent (sequences_kept path job.source m (withdrawn numbers m) l) (set_work job.set_current path job.source) (set_silent job.set_current path job.source))

  room_silent : (o : Option (List ℕ)) → (room_work o run path job m numbers to k).text ≡ []
  room_silent None = moved_silent job.link
  room_silent (Some folder) = refl

  apart_silent : (b : Bool) → (apart_work b run path job m numbers to k).text ≡ []
  apart_silent true = refl
  apart_silent false = room_silent (first_full to (length numbers))

-- whatever the words choose
said_silent : (run : ℕ) (path : List ℕ) (job : RefileJob) (m : Marked) (to : List Destination) (k : Kept) (value : Result (List ℕ) CommandFault) → (said_work run path job m to k value).text ≡ []
said_silent run path job m to k (Ok numbers) = apart_silent run path job m numbers to k (names_source job)
said_silent run path job m to k (Err e) = refl

-- the whole
pub refile_silent : (run : ℕ) (path : List ℕ) (entries : List NamedValue) (homes : HomesOfAll) (job : RefileJob) (m : Mailbox) → (refile_work run path entries homes job m).text ≡ []
unfolding refile_work
refile_silent run path entries homes job m =
    begun_silent path job.source entries (homes job.source) m (λ listing marked k. targets_work path homes (names_without job.source (targets_of job)) [] k (λ to l. said_work run path job marked to l (refile_chosen job listing marked)))
    (λ listing marked k. targets_silent path homes (names_without job.source (targets_of job)) [] k (λ to l. said_work run path job marked to l (refile_chosen job listing marked)) (λ to l. said_silent run path job marked to l (refile_chosen job listing marked)))
