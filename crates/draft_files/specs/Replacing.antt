-- A message takes its draft's place.
use Rattle.std.specs.Prelude.{ℕ, List, Ok}
use Rattle.folder_files.specs.Named.{original_of}
use Rattle.folder_files.specs.declared.place.Place.TheVariants.{Work}
use Rattle.folder_files.specs.declared.refusal.Which.TheVariants.{Files}
use Rattle.file_plans.specs.Plan.{Return, lifted, ◌>>=◌}
use Rattle.step_plans.specs.PlanFaults.{Planned}
use Rattle.step_plans.specs.Replacing.{renamed, synced, written}
use Rattle.step_plans.specs.declared.command_fault.CommandFault.{CommandFault}
use Rattle.step_plans.specs.declared.command_fault.CommandFault.TheVariants as command
use Rattle.step_plans.specs.declared.fault.PlanFault.{PlanFault}
use Rattle.step_plans.specs.declared.fault.PlanFault.TheVariants as plan
use Rattle.command_stages.specs.Texts.{Commanded, too_large}

-- What a fault of a plan on this name of the current directory is to the command. There is no number to run out of
-- there and no directory to be missing, so of these two none comes.
abbrev pub of_work : List ℕ → PlanFault → CommandFault
of_work name plan.Faulted = command.Faulted Files
of_work name (plan.Locked place) = command.Locked place
of_work name (plan.Meddled place other) = command.Meddled place other
of_work name plan.Full = command.Meddled Work name
of_work name (plan.Absent place) = command.Meddled place name
of_work name (plan.TooLarge l) = too_large l
of_work name plan.Memory = command.Memory

-- The message is made under a temporary name and made safe; then the draft is set aside, and then the message takes its
-- name, and the current directory is made safe. So at each step the draft stands whole under its name, or under the one
-- where it is set aside.
unfoldable pub set_in_place : ℕ → List ℕ → List ℕ → Planned Unit
set_in_place run name message = do
  temp ← written run Work message
  aside ← renamed Work name (original_of name)
  moved ← renamed Work temp name
  synced Work name

unfoldable pub draft_replaced : ℕ → List ℕ → List ℕ → Commanded Unit
draft_replaced run name message = do
  set ← lifted (of_work name) (set_in_place run name message)
  Return (Ok tt)
