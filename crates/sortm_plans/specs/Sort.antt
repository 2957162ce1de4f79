-- The plan of `sortm`.
use Rattle.std.specs.Prelude.{ℕ, List, Result}
use Rattle.mh_sequences.specs.declared.run.Run.{Run}
use Rattle.mh_sequences.specs.Runs.{numbers_of}
use Rattle.mh_sequences.specs.Sequences.{Marked}
use Rattle.msg_ranges.specs.Selection.{marks_of}
use Rattle.folder_files.specs.declared.place.Place.{Place}
use Rattle.folder_files.specs.declared.place.Place.TheVariants.{Folder, Mail}
use Rattle.file_plans.specs.Plan.{Return, bind, lifted, ◌>>=◌}
use Rattle.step_plans.specs.PlanFaults.{Planned}
use Rattle.step_plans.specs.declared.command_fault.CommandFault.{CommandFault}
use Rattle.message_places.specs.Order.{moves_of}
use Rattle.message_places.specs.Places.{slots}
use Rattle.message_places.specs.declared.moves.Move.{Move}
use Rattle.command_stages.specs.Chosen.{chosen_in, folder_with}
use Rattle.command_stages.specs.Current.{made_current}
use Rattle.command_stages.specs.Endings.{of_plan}
use Rattle.command_stages.specs.Texts.{Commanded}
use Rattle.opening_plans.specs.Ending.{ended}
use Rattle.opening_plans.specs.Opening.{Opened, begun}
use Rattle.sortm_plans.specs.Moving.{moved_if}
use Rattle.sortm_plans.specs.Reading.{order_read}
use Rattle.sortm_plans.specs.declared.job.SortJob.{SortJob}

-- the messages that the job's words choose of a folder with these numbers and sequences, or the refusal of the first
-- word that is refused
abbrev pub chosen_from : SortJob → List Run → Marked → Result (List ℕ) CommandFault
chosen_from job listing m = chosen_in (folder_with job.negation (numbers_of listing) (marks_of m)) job.specs

-- Messages change places with one another, and their marks go with them: the slots are the numbers that move,
-- ascending.
abbrev pub places_changed : ℕ → Place → Opened → List Move → Planned (List ℕ)
places_changed run mail o ms = moved_if run mail o (slots ms) ms

-- the messages that the words choose are read, and stand in order then; it tells where each ended that moved
unfoldable pub chosen_sorted : ℕ → List ℕ → SortJob → Opened → Commanded (List ℕ)
chosen_sorted run path job o = do
  numbers ← Return (chosen_from job o.listing o.sequences)
  order ← order_read o.place job.key numbers
  lifted (of_plan job.folder) (places_changed run (Mail path) o (moves_of order numbers))

-- and then the folder becomes the current one
unfoldable pub opened_sorted : ℕ → List ℕ → SortJob → Opened → Commanded Unit
opened_sorted run path job o = do
  ends ← chosen_sorted run path job o
  made_current run path job.folder

-- `sortm`: the folder is begun, the chosen messages change places so that they stand in order, and its lock falls
unfoldable pub sortm : ℕ → List ℕ → SortJob → Commanded Unit
sortm run path job = do
  o ← lifted (of_plan job.folder) (begun run (Folder path job.folder) (Mail path) job.folder)
  bind (opened_sorted run path job o) (ended (Folder path job.folder))
