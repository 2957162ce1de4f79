-- The plan of `rmm`.
use Rattle.std.specs.Prelude.{ℕ, Bool, not, List, [], ◌∷◌, Result, Ok}
use Rattle.mh_sequences.specs.declared.mark.Mark.TheVariants.{Withdraw}
use Rattle.mh_sequences.specs.declared.run.Run.{Run}
use Rattle.mh_sequences.specs.Runs.{numbers_of, set_of}
use Rattle.mh_sequences.specs.Sequences.{Marked}
use Rattle.msg_ranges.specs.Selection.{marks_of}
use Rattle.folder_files.specs.declared.place.Place.{Place}
use Rattle.folder_files.specs.declared.place.Place.TheVariants.{Folder, Mail}
use Rattle.file_plans.specs.Plan.{Return, bind, lifted, ◌>>=◌}
use Rattle.step_plans.specs.Locking.{lock_name}
use Rattle.step_plans.specs.PlanFaults.{Planned}
use Rattle.step_plans.specs.Removing.{message_removed}
use Rattle.step_plans.specs.Replacing.{synced}
use Rattle.step_plans.specs.declared.command_fault.CommandFault.{CommandFault}
use Rattle.sequence_commits.specs.Committing.{changed_sequences}
use Rattle.sequence_commits.specs.Marking.{marked_by}
use Rattle.sequence_commits.specs.RunsOfAll.{set_among}
use Rattle.command_stages.specs.Chosen.{chosen_in, folder_with}
use Rattle.command_stages.specs.Current.{made_current}
use Rattle.command_stages.specs.Endings.{of_plan}
use Rattle.command_stages.specs.Texts.{Commanded}
use Rattle.opening_plans.specs.Ending.{ended}
use Rattle.opening_plans.specs.Opening.{Opened, begun}
use Rattle.refile_plans.specs.declared.job.RmmJob.{RmmJob}

-- the messages that the job's words choose of a folder with these numbers and sequences, or the refusal of the first
-- word that is refused
abbrev pub chosen_from : RmmJob → List Run → Marked → Result (List ℕ) CommandFault
chosen_from job listing m = chosen_in (folder_with job.negation (numbers_of listing) (marks_of m)) job.specs

-- the sequences without these numbers; the current message stays
abbrev pub withdrawn : List ℕ → Marked → Marked
withdrawn numbers m = marked_by (Withdraw (set_of (set_among numbers) 0)) m

-- these messages leave the folder, one after another
unfoldable pub all_removed : Place → Bool → List ℕ → Planned Unit
all_removed p backup [] = Return (Ok tt)
all_removed p backup (n ∷ ns) = do
  gone ← message_removed p n backup
  all_removed p backup ns

-- and the folder is made safe
unfoldable pub removed_safely : Place → Bool → List ℕ → Planned Unit
removed_safely p backup numbers = do
  gone ← all_removed p backup numbers
  synced p lock_name

-- and then they leave its sequences, which are committed
unfoldable pub removed_marked : ℕ → Place → Bool → Opened → List ℕ → Planned Unit
removed_marked run mail backup o numbers = do
  gone ← removed_safely o.place backup numbers
  changed_sequences run o.place mail o.folder o.sequences (withdrawn numbers o.sequences)

-- the messages that the words choose
unfoldable pub said_removed : ℕ → List ℕ → RmmJob → Opened → Commanded Unit
said_removed run path job o = do
  numbers ← Return (chosen_from job o.listing o.sequences)
  lifted (of_plan job.folder) (removed_marked run (Mail path) (not job.unlink) o numbers)

-- and then the folder becomes the current one
unfoldable pub opened_removed : ℕ → List ℕ → RmmJob → Opened → Commanded Unit
opened_removed run path job o = do
  removed ← said_removed run path job o
  made_current run path job.folder

-- `rmm`: the folder is begun, the chosen messages leave it and its sequences, and its lock falls
unfoldable pub rmm : ℕ → List ℕ → RmmJob → Commanded Unit
rmm run path job = do
  o ← lifted (of_plan job.folder) (begun run (Folder path job.folder) (Mail path) job.folder)
  bind (opened_removed run path job o) (ended (Folder path job.folder))
