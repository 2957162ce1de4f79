use Rattle.std.proofs.Common.{refl}
use Rattle.file_plans.proofs.Following.{lift_err, lift_ok, no_room}
use Rattle.command_stages.specs.Endings.{of_plan}
use Rattle.command_stages.proofs.Causes.{plan_same}
use Rattle.step_plans.specs.CommandFaults.{command_cause}
use Rattle.step_plans.specs.PlanFaults.{plan_cause}
use Rattle.opened_folders.proofs.making.open_made.Goals as goal

pub returns-in_err-name-clause-plan : goal.returns-in_err-name-clause-plan
returns-in_err-name-clause-plan g c = no_room _ c.from_residual.ensures refl

pub returns-in-Ok-clause-plan : goal.returns-in-Ok-clause-plan
returns-in-Ok-clause-plan g c = lift_ok _ plan_cause command_cause (of_plan c.args.folder.now) _ _ _ _ c.in-Ok.ensures.plan

pub returns-in-Err-clause-plan : goal.returns-in-Err-clause-plan
returns-in-Err-clause-plan g c = lift_err _ plan_cause command_cause (of_plan c.args.folder.now) _ _ _ _ _ (plan_same _) (rw c.in_ok-name.ensures at c.fault_in.ensures) c.in-Err.ensures.plan
