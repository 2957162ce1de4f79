-- How a plan's fault ends a command on a folder.
use Rattle.std.specs.Prelude.{ℕ, Bool, true, false, List, Ok, Err}
use Rattle.folder_files.specs.declared.refusal.Refusal.TheVariants as refusal
use Rattle.folder_files.specs.declared.refusal.Which.TheVariants.{Files}
use Rattle.step_plans.specs.declared.command_fault.CommandFault.{CommandFault}
use Rattle.step_plans.specs.declared.command_fault.CommandFault.TheVariants as command
use Rattle.step_plans.specs.declared.fault.PlanFault.{PlanFault}
use Rattle.step_plans.specs.declared.fault.PlanFault.TheVariants as plan
use Rattle.file_plans.specs.Plan.{Return}
use Rattle.command_stages.specs.Texts.{Commanded, too_large}

abbrev pub of_plan : List ℕ → PlanFault → CommandFault
of_plan folder plan.Faulted = command.Faulted Files
of_plan folder (plan.Locked place) = command.Locked place
of_plan folder (plan.Meddled place name) = command.Meddled place name
of_plan folder plan.Full = command.Refused (refusal.Full folder)
of_plan folder (plan.Absent place) = command.Refused (refusal.NoFolder folder)
of_plan folder (plan.TooLarge l) = too_large l
of_plan folder plan.Memory = command.Memory

-- so many numbers are free above the highest of this folder
abbrev pub if_room : Bool → List ℕ → Commanded Unit
if_room true folder = Return (Ok tt)
if_room false folder = Return (Err (command.Refused (refusal.Full folder)))
