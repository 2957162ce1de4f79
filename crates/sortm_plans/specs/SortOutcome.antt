-- What `sortm` comes to, by the mailbox. Nothing here knows of steps.
use Rattle.std.specs.Prelude.{◌==◌, ◌&&◌, ◌∷◌, [], ℕ, List, length, map, nat_lt, Option, None, Some, Result, Ok, Err, if◌then◌else◌}
use Rattle.mh_profile.specs.declared.named_value.NamedValue.{NamedValue}
use Rattle.mh_sequences.specs.Sequences.{Marked}
use Rattle.mh_sequences.specs.declared.run.Run.{Run}
use Rattle.folder_files.specs.declared.place.Place.{Place}
use Rattle.folder_files.specs.declared.place.Place.TheVariants.{Folder}
use Rattle.file_plans.specs.Contents.{filled}
use Rattle.file_plans.specs.Mailboxes.{Folder as FolderValue, Mailbox}
use Rattle.step_plans.specs.ContextCommit.{LIMIT_BYTES}
use Rattle.step_plans.specs.declared.command_fault.CommandFault.{CommandFault}
use Rattle.held_messages.specs.HeldPairs.{with_folder_changed}
use Rattle.message_places.specs.Order.{moves_of}
use Rattle.message_places.specs.Places.{is_in, slots}
use Rattle.command_stages.specs.Texts.{too_large}
use Rattle.command_stages.specs.Works.{Work, refused_at}
use Rattle.opening_plans.specs.BegunWork.{Homes, after_commits, begun_work, current_work}
use Rattle.opening_plans.specs.Kept.{Commits, Kept, kept_of}
use Rattle.refile_plans.specs.MailMoved.{message_of}
use Rattle.sortm_plans.specs.MarksAlong.{marks_along}
use Rattle.sortm_plans.specs.Sort.{chosen_from}
use Rattle.sortm_plans.specs.SortMoves.{order_by}
use Rattle.sortm_plans.specs.declared.job.SortJob.{SortJob}

-- where the messages of an order stand at the slots beside them: the number of the message that stands at this one then
abbrev pub comes_from : List ℕ → List ℕ → ℕ → ℕ
comes_from [] ss k = k
comes_from (n ∷ order) [] k = k
comes_from (n ∷ order) (s ∷ ss) k = if s == k then n else comes_from order ss k

-- The folder where the k-th message of the order stands at the k-th slot, and all others stay where they are. Of those
-- that changed their places the run holds none aside.
abbrev pub in_order_at : ℕ → List ℕ → List ℕ → FolderValue → FolderValue
in_order_at run order ss f = record {
  messages = λ k. f.messages (comes_from order ss k);
  removed = f.removed;
  held = λ r k. if (run == r) && is_in k (slots (moves_of order ss)) then None else f.held r k;
  sequences = f.sequences;
}

-- the bytes of messages of a folder
abbrev pub texts_in : Option FolderValue → List ℕ → List (List ℕ)
texts_in o numbers = map (λ n. filled (message_of o n)) numbers

-- the length of the first that is too long
abbrev pub first_long : List (List ℕ) → Option ℕ
first_long [] = None
first_long (t ∷ ts) = if nat_lt LIMIT_BYTES (length t) then Some (length t) else first_long ts

-- the messages stand in order
abbrev pub with_order : ℕ → Place → List ℕ → List ℕ → Kept → Kept
with_order run p order ss k = kept_of (with_folder_changed k.mailbox p (in_order_at run order ss)) k.entries

-- the messages of the order come to the slots, and their marks go along; where all stand so already nothing is changed
abbrev pub mail_sorted : ℕ → List ℕ → List ℕ → List ℕ → List ℕ → Marked → Kept → Commits
mail_sorted run path folder order ss m k =
    marks_along path folder m (slots (moves_of order ss)) (moves_of order ss)
    (with_order run (Folder path folder) order ss) k

-- a chosen message that is too long refuses; else they come to stand at their numbers in the order that is asked for,
-- and the folder becomes the current one
abbrev pub read_work : ℕ → List ℕ → SortJob → Marked → Kept → List ℕ → List (List ℕ) → Option ℕ → Work CommandFault
read_work run path job m k numbers texts None =
    after_commits (mail_sorted run path job.folder (order_by job.key texts numbers) numbers m k)
    (current_work path job.folder [])
read_work run path job m k numbers texts (Some l) = refused_at k.mailbox (too_large l)

-- by the bytes that the chosen messages have
abbrev pub texts_work : ℕ → List ℕ → SortJob → Marked → Kept → List ℕ → List (List ℕ) → Work CommandFault
texts_work run path job m k numbers texts = read_work run path job m k numbers texts (first_long texts)

abbrev pub chosen_work : ℕ → List ℕ → SortJob → Marked → Kept → Result (List ℕ) CommandFault → Work CommandFault
chosen_work run path job m k (Ok numbers) =
    texts_work run path job m k numbers (texts_in (k.mailbox.folders (Folder path job.folder)) numbers)
chosen_work run path job m k (Err e) = refused_at k.mailbox e

-- of a folder with these numbers and sequences
abbrev pub opened_work : ℕ → List ℕ → SortJob → List Run → Marked → Kept → Work CommandFault
opened_work run path job listing m k = chosen_work run path job m k (chosen_from job listing m)

-- `sortm` of this run, where the context has these entries, and what was held aside in the folder goes so
unfoldable pub sort_work : ℕ → List ℕ → List NamedValue → Homes → SortJob → Mailbox → Work CommandFault
sort_work run path entries h job m = begun_work path job.folder entries h m (opened_work run path job)
