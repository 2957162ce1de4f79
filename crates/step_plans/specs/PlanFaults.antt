-- What the faults of a plan stand for.
use Rattle.std.specs.Prelude.{Result}
use Rattle.file_plans.specs.Plan.{Plan}
use Rattle.file_plans.specs.Runs.{Cause, OfPlan, OfFiles, OfMemory}
use Rattle.file_plans.specs.declared.asking.Stop.{Stop}
use Rattle.file_plans.specs.declared.asking.Stop.TheVariants as stop
use Rattle.step_plans.specs.declared.fault.PlanFault.{PlanFault}
use Rattle.step_plans.specs.declared.fault.PlanFault.TheVariants as fault

abbrev pub of_stop : Stop → PlanFault
of_stop stop.Failed = fault.Faulted
of_stop stop.Memory = fault.Memory

-- a fault of the files and want of memory end a call by themselves; the others are its plan's
abbrev pub plan_cause : PlanFault → Cause
plan_cause fault.Faulted = OfFiles
plan_cause (fault.Locked place) = OfPlan
plan_cause (fault.Meddled place name) = OfPlan
plan_cause fault.Full = OfPlan
plan_cause (fault.Absent place) = OfPlan
plan_cause (fault.TooLarge length) = OfPlan
plan_cause fault.Memory = OfMemory

abbrev pub Planned : Type 0 → Type 0
Planned A = Plan (Result A PlanFault)
