-- What `anno` comes to, by the mailbox. Nothing here knows of steps.
use Rattle.std.specs.Prelude.{◌++◌, ◌∷◌, [], ℕ, List, length, nat_lt, None, Some, Result, Ok, Err, if◌then◌else◌}
use Rattle.mh_profile.specs.declared.named_value.NamedValue.{NamedValue}
use Rattle.mh_sequences.specs.Sequences.{Marked}
use Rattle.mh_sequences.specs.declared.run.Run.{Run}
use Rattle.folder_files.specs.declared.place.Place.{Place}
use Rattle.folder_files.specs.declared.place.Place.TheVariants.{Folder}
use Rattle.file_plans.specs.MailboxChanges.{with_message}
use Rattle.file_plans.specs.Mailboxes.{Mailbox}
use Rattle.step_plans.specs.ContextCommit.{LIMIT_BYTES}
use Rattle.step_plans.specs.declared.command_fault.CommandFault.{CommandFault}
use Rattle.held_messages.specs.HeldPairs.{with_folder_changed}
use Rattle.command_stages.specs.Works.{Work, refused_at}
use Rattle.opening_plans.specs.BegunWork.{Homes, after_commits, begun_work, current_work}
use Rattle.opening_plans.specs.Kept.{Commits, Kept, all_made, kept_of, too_long}
use Rattle.refile_plans.specs.MailMoved.{message_of, where_message, with_aside}
use Rattle.anno_plans.specs.Anno.{chosen_from}
use Rattle.anno_plans.specs.declared.job.AnnoJob.{AnnoJob}

-- this is the message of this number, which the run doesn't hold aside
abbrev pub with_noted : ℕ → Place → ℕ → List ℕ → Mailbox → Mailbox
with_noted run p n new m = with_message (with_folder_changed m p (with_aside run n None)) p n new

-- the run holds it aside, since it, or what it was to be, is too long
abbrev pub held_long : ℕ → Place → ℕ → List ℕ → ℕ → Kept → Commits
held_long run p n bytes l k =
    too_long (kept_of (with_folder_changed k.mailbox p (with_aside run n (Some bytes))) k.entries) l

-- The messages of these numbers get the lines, one after another. The one that is too long, by itself or with the
-- lines, is the last. A number that has no message is left out.
unfoldable pub mail_noted : ℕ → Place → List ℕ → List ℕ → Kept → Commits
mail_noted run p lines [] k = all_made k
mail_noted run p lines (n ∷ ns) k =
    where_message (message_of (k.mailbox.folders p) n) (mail_noted run p lines ns k)
    (λ bytes.
    if nat_lt LIMIT_BYTES (length bytes) then held_long run p n bytes (length bytes) k
    else (if nat_lt LIMIT_BYTES (length (lines ++ bytes)) then held_long run p n bytes (length (lines ++ bytes)) k
    else mail_noted run p lines ns (kept_of (with_noted run p n (lines ++ bytes) k.mailbox) k.entries)))

-- the chosen messages get the lines, and the folder becomes the current one
abbrev pub chosen_work : ℕ → List ℕ → AnnoJob → Kept → Result (List ℕ) CommandFault → Work CommandFault
chosen_work run path job k (Ok numbers) =
    after_commits (mail_noted run (Folder path job.folder) job.lines numbers k) (current_work path job.folder [])
chosen_work run path job k (Err e) = refused_at k.mailbox e

-- of a folder with these numbers and sequences
abbrev pub opened_work : ℕ → List ℕ → AnnoJob → List Run → Marked → Kept → Work CommandFault
opened_work run path job listing m k = chosen_work run path job k (chosen_from job listing m)

-- `anno` of this run, where the context has these entries, and what was held aside in the folder goes so
unfoldable pub anno_work : ℕ → List ℕ → List NamedValue → Homes → AnnoJob → Mailbox → Work CommandFault
anno_work run path entries h job m = begun_work path job.folder entries h m (opened_work run path job)
