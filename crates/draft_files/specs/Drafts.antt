-- The text of a draft.
use Rattle.std.specs.Prelude.{ℕ, false, List, Option, None, Some, Ok, Err}
use Rattle.folder_files.specs.declared.place.FilePath.{FilePath}
use Rattle.folder_files.specs.declared.place.Place.TheVariants.{Work}
use Rattle.folder_files.specs.declared.refusal.Refusal.TheVariants as refusal
use Rattle.file_plans.specs.Asking.{read}
use Rattle.file_plans.specs.Plan.{Return, lifted, ◌>>=◌}
use Rattle.file_plans.specs.declared.answers.Reading.{Reading}
use Rattle.file_plans.specs.declared.answers.Reading.TheVariants as reading
use Rattle.step_plans.specs.CommandFaults.{of_stop}
use Rattle.step_plans.specs.ContextCommit.{LIMIT_BYTES}
use Rattle.step_plans.specs.declared.command_fault.CommandFault.{CommandFault}
use Rattle.step_plans.specs.declared.command_fault.CommandFault.TheVariants as fault
use Rattle.command_stages.specs.Texts.{Commanded, too_large}
use Rattle.draft_files.specs.Hearing.{all_heard}

-- a file of the current directory
abbrev pub in_work : List ℕ → FilePath
in_work name = record { home = false; text = name }

abbrev pub no_file : FilePath → CommandFault
no_file path = fault.Refused (refusal.NoFile path)

-- by what reading it gave
abbrev pub draft_by : List ℕ → Reading → Commanded (List ℕ)
draft_by name (reading.Content bytes) = Return (Ok bytes)
draft_by name (reading.Long l) = Return (Err (too_large l))
draft_by name reading.Gone = Return (Err (no_file (in_work name)))

-- the text of a draft in the current directory
unfoldable pub draft_read : List ℕ → Commanded (List ℕ)
draft_read name = do
  reading ← lifted of_stop (read Work name LIMIT_BYTES)
  draft_by name reading

-- the text of the draft of this name, or the input where there is no name
abbrev pub draft_text : Option (List ℕ) → Commanded (List ℕ)
draft_text None = all_heard
draft_text (Some name) = draft_read name
