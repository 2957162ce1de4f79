-- The errors of commands and their causes.
use Rattle.std.proofs.Common.{◌≡◌, refl, ℕ, List}
use Rattle.mh_base.specs.declared.streams.SinkFault.{SinkFault}
use Rattle.mh_base.specs.declared.streams.SinkFault.TheVariants as sink
use Rattle.file_plans.specs.declared.asking.Stop.{Stop}
use Rattle.file_plans.specs.declared.asking.Stop.TheVariants as stop
use Rattle.file_plans.specs.Asking.{stop_cause, sink_cause}
use Rattle.file_plans.proofs.Following.{SameCause}
use Rattle.step_plans.specs.CommandFaults.{command_cause, of_stop, of_sink}
use Rattle.step_plans.specs.PlanFaults.{plan_cause}
use Rattle.step_plans.specs.declared.fault.PlanFault.{PlanFault}
use Rattle.step_plans.specs.declared.fault.PlanFault.TheVariants as plan
use Rattle.command_stages.specs.Endings.{of_plan}

stop_each : (e : Stop) → command_cause (of_stop e) ≡ stop_cause e
stop_each stop.Failed = refl
stop_each stop.Memory = refl

pub stop_same : SameCause stop_cause command_cause of_stop
stop_same = record { same = stop_each }

sink_each : (e : SinkFault) → command_cause (of_sink e) ≡ sink_cause e
sink_each sink.Failed = refl
sink_each sink.Memory = refl

pub sink_same : SameCause sink_cause command_cause of_sink
sink_same = record { same = sink_each }

plan_each : (folder : List ℕ) (e : PlanFault) → command_cause (of_plan folder e) ≡ plan_cause e
plan_each folder plan.Faulted = refl
plan_each folder (plan.Locked place) = refl
plan_each folder (plan.Meddled place name) = refl
plan_each folder plan.Full = refl
plan_each folder (plan.Absent place) = refl
plan_each folder (plan.TooLarge l) = refl
plan_each folder plan.Memory = refl

pub plan_same : (folder : List ℕ) → SameCause plan_cause command_cause (of_plan folder)
plan_same folder = record { same = plan_each folder }
