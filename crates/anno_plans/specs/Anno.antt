-- The plan of `anno`.
use Rattle.std.specs.Prelude.{ℕ, List, Result}
use Rattle.mh_sequences.specs.declared.run.Run.{Run}
use Rattle.mh_sequences.specs.Runs.{last_in, numbers_of}
use Rattle.mh_sequences.specs.Sequences.{Marked}
use Rattle.msg_ranges.specs.Selection.{marks_of}
use Rattle.folder_files.specs.declared.place.Place.TheVariants.{Folder, Mail}
use Rattle.file_plans.specs.Plan.{Return, bind, lifted, ◌>>=◌}
use Rattle.step_plans.specs.declared.command_fault.CommandFault.{CommandFault}
use Rattle.command_stages.specs.Chosen.{chosen_in, folder_with}
use Rattle.command_stages.specs.Current.{made_current}
use Rattle.command_stages.specs.Endings.{of_plan}
use Rattle.command_stages.specs.Texts.{Commanded}
use Rattle.opening_plans.specs.Ending.{ended}
use Rattle.opening_plans.specs.Opening.{Opened, begun}
use Rattle.message_notes.specs.Noting.{messages_noted}
use Rattle.anno_plans.specs.declared.job.AnnoJob.{AnnoJob}

-- the messages that the job's words choose of a folder with these numbers and sequences, or the refusal of the first
-- word that is refused
abbrev pub chosen_from : AnnoJob → List Run → Marked → Result (List ℕ) CommandFault
chosen_from job listing m = chosen_in (folder_with job.negation (numbers_of listing) (marks_of m)) job.specs

-- the messages that the words choose get the lines
unfoldable pub said_noted : ℕ → AnnoJob → Opened → Commanded Unit
said_noted run job o = do
  numbers ← Return (chosen_from job o.listing o.sequences)
  lifted (of_plan job.folder) (messages_noted run o.place job.lines numbers (last_in o.listing))

-- and then the folder becomes the current one
unfoldable pub opened_noted : ℕ → List ℕ → AnnoJob → Opened → Commanded Unit
opened_noted run path job o = do
  noted ← said_noted run job o
  made_current run path job.folder

-- `anno`: the folder is begun, the chosen messages get the lines in front, and its lock falls
unfoldable pub anno : ℕ → List ℕ → AnnoJob → Commanded Unit
anno run path job = do
  o ← lifted (of_plan job.folder) (begun run (Folder path job.folder) (Mail path) job.folder)
  bind (opened_noted run path job o) (ended (Folder path job.folder))
