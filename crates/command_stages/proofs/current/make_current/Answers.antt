use Rattle.std.proofs.Common.{refl}
use Rattle.file_plans.proofs.Following.{go_from, stop_from, done, no_room}
use Rattle.command_stages.proofs.Causes.{plan_same}
use Rattle.command_stages.specs.Current.{made_current}
use Rattle.command_stages.proofs.current.make_current.Goals as goal

pub returns-in_err-changes-clause-plan : goal.returns-in_err-changes-clause-plan
returns-in_err-changes-clause-plan g c = no_room _ c.from_residual.ensures refl

pub returns-in_err-name-clause-plan : goal.returns-in_err-name-clause-plan
returns-in_err-name-clause-plan g c = no_room _ c.from_residual-in_err-name.ensures refl

pub returns-in-Ok-clause-plan : goal.returns-in-Ok-clause-plan
unfolding made_current
returns-in-Ok-clause-plan g c = go_from _ _ (rw c.in_ok-changes.ensures.changes at c.in-Ok.ensures.plan) done

pub returns-clause-plan : goal.returns-clause-plan
unfolding made_current
returns-clause-plan g c = stop_from _ (plan_same _) (rw c.in_ok-changes.ensures.changes at c.in-Err.ensures.plan) (refl, rw c.in_ok-name.ensures at c.fault_in.ensures)
