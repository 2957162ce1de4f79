-- The errors of the input and of the current directory, and their causes.
use Rattle.std.proofs.Common.{◌≡◌, refl, ℕ, List}
use Rattle.mh_base.specs.declared.streams.SourceFault.{SourceFault}
use Rattle.mh_base.specs.declared.streams.SourceFault.TheVariants as source
use Rattle.file_plans.specs.Asking.{source_cause}
use Rattle.file_plans.proofs.Following.{SameCause}
use Rattle.step_plans.specs.CommandFaults.{command_cause}
use Rattle.step_plans.specs.PlanFaults.{plan_cause}
use Rattle.step_plans.specs.declared.fault.PlanFault.{PlanFault}
use Rattle.step_plans.specs.declared.fault.PlanFault.TheVariants as plan
use Rattle.draft_files.specs.Hearing.{of_source}
use Rattle.draft_files.specs.Replacing.{of_work}

source_each : (e : SourceFault) → command_cause (of_source e) ≡ source_cause e
source_each source.Failed = refl
source_each source.Memory = refl

pub source_same : SameCause source_cause command_cause of_source
source_same = record { same = source_each }

work_each : (name : List ℕ) (e : PlanFault) → command_cause (of_work name e) ≡ plan_cause e
work_each name plan.Faulted = refl
work_each name (plan.Locked place) = refl
work_each name (plan.Meddled place other) = refl
work_each name plan.Full = refl
work_each name (plan.Absent place) = refl
work_each name (plan.TooLarge l) = refl
work_each name plan.Memory = refl

pub work_same : (name : List ℕ) → SameCause plan_cause command_cause (of_work name)
work_same name = record { same = work_each name }
