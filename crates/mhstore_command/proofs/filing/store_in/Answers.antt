use Rattle.std.proofs.Common.{refl}
use Rattle.file_plans.proofs.Following.{lift_err, lift_ok, no_room}
use Rattle.step_plans.specs.CommandFaults.{command_cause}
use Rattle.step_plans.specs.PlanFaults.{plan_cause}
use Rattle.command_stages.specs.Endings.{of_plan}
use Rattle.command_stages.proofs.Causes.{plan_same}
use Rattle.mhstore_command.proofs.filing.store_in.Goals as goal

pub returns-in_err-folder-clause-plan : goal.returns-in_err-folder-clause-plan
returns-in_err-folder-clause-plan g c = no_room _ c.from_residual.ensures refl

pub returns-in-Ok-clause-plan : goal.returns-in-Ok-clause-plan
returns-in-Ok-clause-plan g c = lift_ok _ plan_cause command_cause (of_plan c.args.job.now.folder) _ _ _ _ c.in-Ok.ensures.plan

pub returns-in-Err-clause-plan : goal.returns-in-Err-clause-plan
returns-in-Err-clause-plan g c = lift_err _ plan_cause command_cause (of_plan c.args.job.now.folder) _ _ _ _ _ (plan_same _) (rw c.in_ok-folder.ensures at c.fault_in.ensures) c.in-Err.ensures.plan
