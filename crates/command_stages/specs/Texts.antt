-- Texts that a command reads.
use Rattle.std.specs.Prelude.{List, ℕ, [], Result, Ok, Err}
use Rattle.folder_files.specs.declared.place.Place.{Place}
use Rattle.folder_files.specs.declared.refusal.Refusal.TheVariants as refusal
use Rattle.file_plans.specs.Asking.{read}
use Rattle.file_plans.specs.Plan.{Plan, Return, lifted, ◌>>=◌}
use Rattle.file_plans.specs.declared.answers.Reading.{Reading}
use Rattle.file_plans.specs.declared.answers.Reading.TheVariants as reading
use Rattle.step_plans.specs.CommandFaults.{of_stop}
use Rattle.step_plans.specs.ContextCommit.{LIMIT_BYTES}
use Rattle.step_plans.specs.declared.command_fault.CommandFault.{CommandFault}
use Rattle.step_plans.specs.declared.command_fault.CommandFault.TheVariants as fault

abbrev pub Commanded : Type 0 → Type 0
Commanded A = Plan (Result A CommandFault)

-- a text of this length is neither read nor written
abbrev pub too_large : ℕ → CommandFault
too_large l = fault.Refused (refusal.TooLarge l LIMIT_BYTES)

-- a text that was read; the empty one where there is none
abbrev pub text_by : Reading → Commanded (List ℕ)
text_by (reading.Content bytes) = Return (Ok bytes)
text_by (reading.Long l) = Return (Err (too_large l))
text_by reading.Gone = Return (Ok [])

unfoldable pub text_read : Place → List ℕ → Commanded (List ℕ)
text_read place name = do
  reading ← lifted of_stop (read place name LIMIT_BYTES)
  text_by reading
