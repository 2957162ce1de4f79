-- The faults of a plan's steps, and their causes.
use Rattle.std.proofs.Common.{◌≡◌, refl}
use Rattle.file_plans.specs.Asking.{stop_cause}
use Rattle.file_plans.specs.declared.asking.Stop.{Stop}
use Rattle.file_plans.specs.declared.asking.Stop.TheVariants as stop
use Rattle.file_plans.proofs.Following.{SameCause}
use Rattle.step_plans.specs.PlanFaults.{plan_cause, of_stop}

stop_each : (e : Stop) → plan_cause (of_stop e) ≡ stop_cause e
stop_each stop.Failed = refl
stop_each stop.Memory = refl

-- what stops a step has the same cause as the plan's fault
pub stop_same : SameCause stop_cause plan_cause of_stop
stop_same = record { same = stop_each }
