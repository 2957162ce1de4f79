-- Plans that begin a folder, and that let it go.
use Rattle.std.specs.Prelude.{ℕ, List, [], Option, Ok, Err}
use Rattle.mh_base.specs.Entries.{entry_text}
use Rattle.mh_base.specs.declared.entry.Entry.TheVariants.{Sequences}
use Rattle.mh_sequences.specs.Sequences.{Marked}
use Rattle.mh_sequences.specs.declared.run.Run.{Run}
use Rattle.folder_files.specs.declared.place.Place.{Place}
use Rattle.file_plans.specs.Asking.{lock, make_folder, read}
use Rattle.file_plans.specs.Plan.{Return, lifted, ◌>>=◌}
use Rattle.file_plans.specs.declared.answers.Locking.{Locking}
use Rattle.file_plans.specs.declared.answers.Locking.TheVariants as locking
use Rattle.file_plans.specs.declared.answers.Reading.{Reading}
use Rattle.file_plans.specs.declared.answers.Reading.TheVariants as reading
use Rattle.step_plans.specs.ContextCommit.{LIMIT_BYTES, context_read}
use Rattle.step_plans.specs.Hands.{known}
use Rattle.step_plans.specs.Locking.{cleared, lock_name}
use Rattle.step_plans.specs.PlanFaults.{of_stop, Planned}
use Rattle.step_plans.specs.Replacing.{synced}
use Rattle.step_plans.specs.declared.fault.PlanFault.TheVariants as fault
use Rattle.held_messages.specs.Settle.{Settled, put_back}
use Rattle.sequence_commits.specs.Committing.{cut_committed}
use Rattle.sequence_commits.specs.Cutting.{cut_to}
use Rattle.sequence_commits.specs.Reading.{sequences_in}
use Rattle.opening_plans.specs.Existing.{numbers_settled}

-- a folder that this run has begun: where it is, the numbers of its messages, its sequences without absent numbers, and
-- where each message stands that another run held aside there
pub record Opened : Type 0 where
  pub place : Place
  pub folder : List ℕ
  pub listing : List Run
  pub sequences : Marked
  pub ends : List (Option ℕ)

abbrev pub opened_of : Place → List ℕ → List Run → Marked → List (Option ℕ) → Opened
opened_of place folder listing sequences ends =
    record { place = place; folder = folder; listing = listing; sequences = sequences; ends = ends }

-- the same folder with other sequences
abbrev pub with_sequences : Marked → Opened → Opened
with_sequences new o = opened_of o.place o.folder o.listing new o.ends

-- the folder's lock, tried once
abbrev pub locked_by : Place → Locking → Planned Unit
locked_by p locking.Done = Return (Ok tt)
locked_by p locking.Busy = Return (Err (fault.Locked p))
locked_by p locking.Gone = Return (Err (fault.Absent p))

unfoldable pub folder_locked : Place → Planned Unit
folder_locked p = do
  locking ← lifted of_stop (lock p)
  locked_by p locking

-- the mail directory is there, and that the folder stands in it is safe
unfoldable pub mail_made : Place → Planned Unit
mail_made mail = do
  made ← lifted of_stop (make_folder mail)
  synced mail lock_name

-- a text that was read; the empty one where there is none
abbrev pub text_by : Reading → Planned (List ℕ)
text_by (reading.Content bytes) = Return (Ok bytes)
text_by (reading.Long l) = Return (Err (fault.TooLarge l))
text_by reading.Gone = Return (Ok [])

unfoldable pub sequences_read : Place → Planned (List ℕ)
sequences_read p = do
  reading ← lifted of_stop (read p (entry_text Sequences) LIMIT_BYTES)
  text_by reading

-- the folder's sequences, by its text and the context's entries, which the hand knows from here on
unfoldable pub marks_read : Place → Place → List ℕ → Planned Marked
marks_read p mail folder = do
  text ← sequences_read p
  entries ← context_read mail
  seen ← known entries
  Return (Ok (sequences_in text entries folder))

-- the numbers that are absent leave the sequences, which are committed where that changes something
unfoldable pub marks_cut : ℕ → Place → Place → List ℕ → Settled → Marked → Planned Opened
marks_cut run p mail folder s marked = do
  cut ← cut_committed run p mail folder marked (numbers_settled run s)
  Return (Ok (opened_of p folder (numbers_settled run s) (cut_to (numbers_settled run s) marked) s.ends))

-- what was settled is cleared of temporary names, and its sequences are read
unfoldable pub settled_read : ℕ → Place → Place → List ℕ → Settled → Planned Opened
settled_read run p mail folder s = do
  clear ← cleared p s.names
  marked ← marks_read p mail folder
  marks_cut run p mail folder s marked

-- under its lock, the folder is listed and what other runs than this hold aside there is put back
unfoldable pub locked_begun : ℕ → Place → Place → List ℕ → Planned Opened
locked_begun run p mail folder = do
  made ← mail_made mail
  s ← put_back run p
  settled_read run p mail folder s

-- the folder at this place, of this name, in this mail directory
unfoldable pub begun : ℕ → Place → Place → List ℕ → Planned Opened
begun run p mail folder = do
  held ← folder_locked p
  locked_begun run p mail folder
