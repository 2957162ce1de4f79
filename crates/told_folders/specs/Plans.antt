-- The plans of a command that tells of a folder's sequences, and may change them.
use Rattle.std.specs.Prelude.{ℕ, List, [], ◌∷◌, Ok}
use Rattle.mh_base.specs.Entries.{entry_text}
use Rattle.mh_base.specs.declared.entry.Entry.TheVariants.{Sequences}
use Rattle.folder_files.specs.declared.place.Place.TheVariants.{Folder, Mail}
use Rattle.file_plans.specs.Plan.{Return, Recall, bind, lifted, say, ◌>>=◌}
use Rattle.step_plans.specs.CommandFaults.{of_sink}
use Rattle.sequence_commits.specs.Committing.{changed_sequences}
use Rattle.command_stages.specs.Current.{made_current}
use Rattle.command_stages.specs.Endings.{of_plan}
use Rattle.command_stages.specs.Listed.{folder_listed}
use Rattle.command_stages.specs.Texts.{Commanded, text_read}
use Rattle.opening_plans.specs.Ending.{ended}
use Rattle.opening_plans.specs.Opening.{Opened, begun, with_sequences}
use Rattle.told_folders.specs.Tasks.{Task, chosen_from, listed_runs, sequences_seen}
use Rattle.mh_profile.specs.Reading.{entries_seen}

-- these lines, one after another
unfoldable pub lines_said : List (List ℕ) → Commanded Unit
lines_said [] = Return (Ok tt)
lines_said (line ∷ lines) = do
  told ← lifted of_sink (say line)
  lines_said lines

-- the sequences become what the task makes of them by the messages that its words choose, and are committed
unfoldable pub chosen_changed : ℕ → List ℕ → Task → Opened → Commanded Opened
chosen_changed run path t o = do
  numbers ← Return (chosen_from t o.listing o.sequences)
  done ← lifted (of_plan t.folder)
      (changed_sequences run o.place (Mail path) o.folder o.sequences (t.becomes o.listing numbers o.sequences))
  Return (Ok (with_sequences (t.becomes o.listing numbers o.sequences) o))

-- and then the lines are said, and the folder becomes the current one
unfoldable pub opened_told : ℕ → List ℕ → Task → Opened → Commanded Unit
opened_told run path t o = do
  new ← chosen_changed run path t o
  told ← lines_said (t.lines new.listing new.sequences)
  made_current run path t.folder

-- a command that changes sequences: the folder is begun, they are changed, and its lock falls
unfoldable pub folder_changed : ℕ → List ℕ → Task → Commanded Unit
folder_changed run path t = do
  o ← lifted (of_plan t.folder) (begun run (Folder path t.folder) (Mail path) t.folder)
  bind (opened_told run path t o) (ended (Folder path t.folder))

-- one that only looks takes no lock
unfoldable pub folder_looked : ℕ → List ℕ → Task → Commanded Unit
folder_looked run path t = do
  names ← folder_listed (Folder path t.folder) t.folder
  text ← text_read (Folder path t.folder) (entry_text Sequences)
  m ← Recall (λ h. Return (sequences_seen t names text (entries_seen h.context)))
  told ← lines_said (t.lines (listed_runs names) m)
  made_current run path t.folder
