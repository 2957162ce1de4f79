-- What `rmm` comes to, by the mailbox. Nothing here knows of steps.
use Rattle.std.specs.Prelude.{ℕ, ◌==◌, ◌&&◌, Bool, not, List, [], None, Result, Ok, Err, if◌then◌else◌}
use Rattle.std.specs.List.{list_any}
use Rattle.mh_profile.specs.declared.named_value.NamedValue.{NamedValue}
use Rattle.mh_sequences.specs.declared.run.Run.{Run}
use Rattle.mh_sequences.specs.Sequences.{Marked}
use Rattle.folder_files.specs.declared.place.Place.TheVariants.{Folder}
use Rattle.file_plans.specs.Mailboxes.{Folder as FolderValue, Mailbox}
use Rattle.step_plans.specs.declared.command_fault.CommandFault.{CommandFault}
use Rattle.held_messages.specs.HeldPairs.{with_folder_changed}
use Rattle.command_stages.specs.Works.{Work, refused_at}
use Rattle.opening_plans.specs.BegunWork.{Homes, after_commits, begun_work, current_work}
use Rattle.opening_plans.specs.Kept.{Kept, kept_of, sequences_kept}
use Rattle.refile_plans.specs.Rmm.{chosen_from, withdrawn}
use Rattle.refile_plans.specs.declared.job.RmmJob.{RmmJob}

abbrev pub is_among : ℕ → List ℕ → Bool
is_among k numbers = list_any (λ n. n == k) numbers

-- the folder without these messages; each is its number's backup from now on, where they are backed up
abbrev pub without : Bool → List ℕ → FolderValue → FolderValue
without backup numbers f = record {
  messages = λ k. if is_among k numbers then None else f.messages k;
  removed = λ k. if backup && is_among k numbers then f.messages k else f.removed k;
  held = f.held;
  sequences = f.sequences;
}

abbrev pub removed_from : List ℕ → RmmJob → List ℕ → Kept → Kept
removed_from path job numbers k =
    kept_of (with_folder_changed k.mailbox (Folder path job.folder) (without (not job.unlink) numbers)) k.entries

-- the chosen messages leave the folder and its sequences, and it becomes the current one
abbrev pub chosen_work : List ℕ → RmmJob → Marked → Kept → Result (List ℕ) CommandFault → Work CommandFault
chosen_work path job m k (Ok numbers) =
    after_commits (sequences_kept path job.folder m (withdrawn numbers m) (removed_from path job numbers k))
    (current_work path job.folder [])
chosen_work path job m k (Err e) = refused_at k.mailbox e

-- of a folder with these numbers and sequences
abbrev pub opened_work : List ℕ → RmmJob → List Run → Marked → Kept → Work CommandFault
opened_work path job listing m k = chosen_work path job m k (chosen_from job listing m)

-- `rmm`, where the context has these entries, and what was held aside in the folder goes so
unfoldable pub rmm_work : List ℕ → List NamedValue → Homes → RmmJob → Mailbox → Work CommandFault
rmm_work path entries h job m = begun_work path job.folder entries h m (opened_work path job)
