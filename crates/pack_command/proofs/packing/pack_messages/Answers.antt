use Rattle.std.proofs.Common.{refl}
use Rattle.file_plans.proofs.Following.{lift_err, lift_ok, no_room}
use Rattle.step_plans.specs.CommandFaults.{command_cause}
use Rattle.step_plans.specs.PlanFaults.{plan_cause}
use Rattle.command_stages.specs.Endings.{of_plan}
use Rattle.command_stages.proofs.Causes.{plan_same}
use Rattle.pack_command.proofs.packing.pack_messages.Goals as goal

pub returns-in_err-moves-clause-plan : goal.returns-in_err-moves-clause-plan
returns-in_err-moves-clause-plan g c = no_room _ c.from_residual.ensures refl

pub returns-in_err-folder-clause-plan : goal.returns-in_err-folder-clause-plan
returns-in_err-folder-clause-plan g c = no_room _ c.from_residual-in_err-folder.ensures refl

pub returns-in-Ok-clause-plan : goal.returns-in-Ok-clause-plan
returns-in-Ok-clause-plan g c = lift_ok _ plan_cause command_cause (of_plan c.args.job.now.folder) _ _ _ _ (rw (c.as_slice-3.ensures, c.in_ok-moves.ensures, c.as_slice.ensures.value, c.as_slice-2.ensures) at c.in-Ok.ensures.plan)

pub returns-clause-plan : goal.returns-clause-plan
returns-clause-plan g c = lift_err _ plan_cause command_cause (of_plan c.args.job.now.folder) _ _ _ _ _ (plan_same _) (rw c.in_ok-folder.ensures at c.fault_in.ensures) (rw (c.as_slice-3.ensures, c.in_ok-moves.ensures, c.as_slice.ensures.value, c.as_slice-2.ensures) at c.in-Err.ensures.plan)
