-- What `folder -pack` comes to, by the mailbox. Nothing here knows of steps.
use Rattle.std.specs.Prelude.{◌==◌, ◌&&◌, ℕ, List, None, if◌then◌else◌}
use Rattle.mh_profile.specs.declared.named_value.NamedValue.{NamedValue}
use Rattle.mh_sequences.specs.Sequences.{Marked}
use Rattle.mh_sequences.specs.declared.run.Run.{Run}
use Rattle.folder_files.specs.declared.place.Place.{Place}
use Rattle.folder_files.specs.declared.place.Place.TheVariants.{Folder}
use Rattle.file_plans.specs.Mailboxes.{Folder as FolderValue, Mailbox}
use Rattle.step_plans.specs.declared.command_fault.CommandFault.{CommandFault}
use Rattle.held_messages.specs.HeldPairs.{with_folder_changed}
use Rattle.message_places.specs.Places.{froms, is_in, slots, source_of, stood_at}
use Rattle.message_places.specs.declared.moves.Move.{Move}
use Rattle.command_stages.specs.Works.{Work}
use Rattle.opening_plans.specs.BegunWork.{Homes, after_commits, begun_work, current_work}
use Rattle.opening_plans.specs.Kept.{Commits, Kept, kept_of}
use Rattle.sortm_plans.specs.MarksAlong.{marks_along}
use Rattle.pack_plans.specs.Pack.{line_after}
use Rattle.pack_plans.specs.Places.{listing_moves}
use Rattle.pack_plans.specs.declared.job.PackJob.{PackJob}

-- The folder where each move's message stands at its slot; the other numbers from which one moved are free, and all
-- else is as before. Of those that moved the run holds none aside.
abbrev pub moved_at : ℕ → List Move → FolderValue → FolderValue
moved_at run ms f = record {
  messages = λ k. stood_at f.messages (source_of ms (slots ms) k) (if is_in k (froms ms) then None else f.messages k);
  removed = f.removed;
  held = λ r k. if (run == r) && is_in k (froms ms) then None else f.held r k;
  sequences = f.sequences;
}

abbrev pub with_moved : ℕ → Place → List Move → Kept → Kept
with_moved run p ms k = kept_of (with_folder_changed k.mailbox p (moved_at run ms)) k.entries

-- the messages come to their slots, and their marks go along; where none moves nothing is changed
abbrev pub mail_packed : ℕ → List ℕ → List ℕ → Marked → List Move → Kept → Commits
mail_packed run path folder m ms k = marks_along path folder m (froms ms) ms (with_moved run (Folder path folder) ms) k

-- of a folder with these numbers and sequences: then its line is said, and it becomes the current one
abbrev pub opened_work : ℕ → List ℕ → PackJob → List Run → Marked → Kept → Work CommandFault
opened_work run path job listing m k =
    after_commits (mail_packed run path job.folder m (listing_moves listing) k)
    (current_work path job.folder (line_after job listing m (slots (listing_moves listing))))

-- `folder -pack` of this run, where the context has these entries, and what was held aside in the folder goes so
unfoldable pub pack_work : ℕ → List ℕ → List NamedValue → Homes → PackJob → Mailbox → Work CommandFault
pack_work run path entries h job m = begun_work path job.folder entries h m (opened_work run path job)
