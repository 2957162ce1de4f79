use Rattle.std.proofs.Common.{refl}
use Rattle.file_plans.proofs.Following.{lift_err, lift_ok, no_room}
use Rattle.step_plans.specs.CommandFaults.{command_cause}
use Rattle.step_plans.specs.PlanFaults.{plan_cause}
use Rattle.command_stages.specs.Endings.{of_plan}
use Rattle.command_stages.proofs.Causes.{plan_same}
use Rattle.refile_command.proofs.moving.sync_source.Goals as goal

pub returns-in_err-folder : goal.returns-in_err-folder
returns-in_err-folder g c = λ h. no_room _ c.from_residual.ensures refl

pub returns-in_err-lock : goal.returns-in_err-lock
returns-in_err-lock g c = λ h. no_room _ c.from_residual-in_err-lock.ensures refl

pub returns-in-Ok : goal.returns-in-Ok
returns-in-Ok g c = λ h. lift_ok _ plan_cause command_cause (of_plan c.args.source.now) _ _ _ _ (rw c.in_ok-lock.ensures.value at (c.in-Ok.ensures h))

pub returns-in-Err : goal.returns-in-Err
returns-in-Err g c = λ h. lift_err _ plan_cause command_cause (of_plan c.args.source.now) _ _ _ _ _ (plan_same _) (rw c.in_ok-folder.ensures at c.fault_in.ensures) (rw c.in_ok-lock.ensures.value at (c.in-Err.ensures h))
