-- The plan of `pick`.
use Rattle.std.specs.Prelude.{ℕ, Bool, true, false, List, [], ◌∷◌, Option, None, Some, Result, Ok, Err}
use Rattle.mh_base.specs.Entries.{entry_text}
use Rattle.mh_base.specs.declared.entry.Entry.TheVariants.{Sequences}
use Rattle.mh_profile.specs.declared.named_value.NamedValue.{NamedValue}
use Rattle.mh_sequences.specs.declared.run.Run.{Run}
use Rattle.mh_sequences.specs.Runs.{numbers_of}
use Rattle.mh_sequences.specs.Sequences.{Marked}
use Rattle.msg_ranges.specs.Selection.{marks_of}
use Rattle.folder_files.specs.declared.place.Place.{Place}
use Rattle.folder_files.specs.declared.place.Place.TheVariants.{Folder, Mail}
use Rattle.folder_files.specs.declared.refusal.Refusal.TheVariants as refusal
use Rattle.file_plans.specs.Plan.{Return, Recall, bind, lifted, ◌>>=◌}
use Rattle.step_plans.specs.declared.command_fault.CommandFault.{CommandFault}
use Rattle.step_plans.specs.declared.command_fault.CommandFault.TheVariants as fault
use Rattle.sequence_commits.specs.Committing.{changed_sequences}
use Rattle.command_stages.specs.Chosen.{chosen_in, folder_with}
use Rattle.command_stages.specs.Current.{made_current}
use Rattle.command_stages.specs.Endings.{of_plan}
use Rattle.command_stages.specs.Listed.{folder_listed}
use Rattle.command_stages.specs.Texts.{Commanded, text_read}
use Rattle.opening_plans.specs.Ending.{ended}
use Rattle.opening_plans.specs.Opening.{Opened, begun}
use Rattle.told_folders.specs.Plans.{lines_said}
use Rattle.told_folders.specs.Tasks.{listed_runs, sequences_listed}
use Rattle.pick_plans.specs.Lines.{lines_for}
use Rattle.pick_plans.specs.Marking.{marked_for}
use Rattle.pick_plans.specs.Testing.{all_tested}
use Rattle.pick_plans.specs.declared.job.PickJob.{PickJob}
use Rattle.pick_plans.specs.declared.job.PickMarks.{PickMarks}
use Rattle.mh_profile.specs.Reading.{entries_seen}

-- the messages that the job's words choose of a folder with these numbers and sequences, or the refusal of the first
-- word that is refused
abbrev pub chosen_from : PickJob → List Run → Marked → Result (List ℕ) CommandFault
chosen_from job listing m = chosen_in (folder_with job.negation (numbers_of listing) (marks_of m)) job.specs

-- these lines, where a job lists
abbrev pub said_if : Bool → List (List ℕ) → Commanded Unit
said_if true lines = lines_said lines
said_if false lines = Return (Ok tt)

-- where no message matches, a line says so, where the job lists, and it is refused
unfoldable pub unless_none : Bool → List ℕ → Commanded (List ℕ)
unless_none list [] = do
  told ← said_if list (lines_for [])
  Return (Err (fault.Refused refusal.NoMatch))
unless_none list (n ∷ ns) = Return (Ok (n ∷ ns))

-- the messages of these numbers are read and tested, and those that match are found
unfoldable pub some_found : Place → PickJob → List ℕ → Commanded (List ℕ)
some_found place job numbers = do
  found ← all_tested place job.expr [] numbers
  unless_none job.list found

-- those that match are told, where the job lists, and the folder becomes the current one
unfoldable pub found_told : ℕ → List ℕ → PickJob → List ℕ → Commanded Unit
found_told run path job found = do
  told ← said_if job.list (lines_for found)
  made_current run path job.folder

-- the sequences of a folder that was begun get those that match, and are committed; then these are told
unfoldable pub found_marked : ℕ → List ℕ → PickJob → PickMarks → Opened → List ℕ → Commanded Unit
found_marked run path job p o found = do
  done ← lifted (of_plan job.folder)
      (changed_sequences run o.place (Mail path) o.folder o.sequences (marked_for p found o.sequences))
  found_told run path job found

-- of the messages that the words choose, those that match are marked
unfoldable pub opened_picked : ℕ → List ℕ → PickJob → PickMarks → Opened → Commanded Unit
opened_picked run path job p o = do
  numbers ← Return (chosen_from job o.listing o.sequences)
  found ← some_found o.place job numbers
  found_marked run path job p o found

-- a `pick` that marks: the folder is begun, what matches is marked and told, and its lock falls
unfoldable pub pick_changes : ℕ → List ℕ → PickJob → PickMarks → Commanded Unit
pick_changes run path job p = do
  o ← lifted (of_plan job.folder) (begun run (Folder path job.folder) (Mail path) job.folder)
  bind (opened_picked run path job p o) (ended (Folder path job.folder))

-- the messages that the words choose, by the folder's names, the text of its sequences, of its listed messages alone,
-- and the context
abbrev pub chosen_seen : PickJob → List (List ℕ) → List ℕ → List NamedValue → Result (List ℕ) CommandFault
chosen_seen job names text entries =
    chosen_from job (listed_runs names) (sequences_listed names text entries job.folder)

-- one that marks nothing takes no lock of the folder
unfoldable pub pick_looks : ℕ → List ℕ → PickJob → Commanded Unit
pick_looks run path job = do
  names ← folder_listed (Folder path job.folder) job.folder
  text ← text_read (Folder path job.folder) (entry_text Sequences)
  numbers ← Recall (λ h. Return (chosen_seen job names text (entries_seen h.context)))
  found ← some_found (Folder path job.folder) job numbers
  found_told run path job found

-- `pick`, by what it marks
abbrev pub pick_by : ℕ → List ℕ → PickJob → Option PickMarks → Commanded Unit
pick_by run path job None = pick_looks run path job
pick_by run path job (Some p) = pick_changes run path job p

unfoldable pub pick : ℕ → List ℕ → PickJob → Commanded Unit
pick run path job = pick_by run path job job.marks
