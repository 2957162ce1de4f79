-- A fault is of the same cause once the folder was made.
use Rattle.std.proofs.Common.{◌≡◌, refl}
use Rattle.file_plans.proofs.Following.{SameCause}
use Rattle.step_plans.specs.PlanFaults.{plan_cause}
use Rattle.step_plans.specs.declared.fault.PlanFault.{PlanFault}
use Rattle.step_plans.specs.declared.fault.PlanFault.TheVariants as fault
use Rattle.opening_plans.specs.Making.{once_made}

made_each : (e : PlanFault) → plan_cause (once_made e) ≡ plan_cause e
made_each fault.Faulted = refl
made_each (fault.Locked p) = refl
made_each (fault.Meddled p name) = refl
made_each fault.Full = refl
made_each (fault.Absent p) = refl
made_each (fault.TooLarge l) = refl
made_each fault.Memory = refl

pub made_same : SameCause plan_cause plan_cause once_made
made_same = record { same = made_each }
