use Rattle.std.proofs.Common.{refl}
use Rattle.file_plans.proofs.Following.{go_from, lift_err, lift_ok, no_room, stop_from}
use Rattle.step_plans.specs.PlanFaults.{plan_cause}
use Rattle.step_plans.proofs.Faulting.{stop_same}
use Rattle.opening_plans.specs.Making.{made_begun, once_made}
use Rattle.opening_plans.proofs.Causes.{made_same}
use Rattle.opened_folders.proofs.making.begin_made.Goals as goal

pub returns-in_err-place-clause-plan : goal.returns-in_err-place-clause-plan
returns-in_err-place-clause-plan g c = no_room _ c.from_residual.ensures refl

pub returns-in_err-lock-clause-plan : goal.returns-in_err-lock-clause-plan
returns-in_err-lock-clause-plan g c = no_room _ c.from_residual-in_err-lock.ensures refl

pub returns-in_err-ask_make_folder-clause-plan : goal.returns-in_err-ask_make_folder-clause-plan
unfolding made_begun
returns-in_err-ask_make_folder-clause-plan g c = stop_from _ stop_same (rw (c.in_ok-place.ensures, c.run.ensures) at (c.in_err-ask_make_folder.ensures c.args.hand.now.kept)) c.from_residual-in_err-ask_make_folder.ensures

pub returns-in-Ok-clause-plan : goal.returns-in-Ok-clause-plan
unfolding made_begun
returns-in-Ok-clause-plan g c = go_from _ _ (rw (c.in_ok-place.ensures, c.run.ensures) at (c.in_ok-ask_make_folder.ensures c.args.hand.now.kept)) (lift_ok _ plan_cause plan_cause once_made _ _ _ _ c.in-Ok.ensures.plan)

pub returns-clause-plan : goal.returns-clause-plan
unfolding made_begun
returns-clause-plan g c =
    go_from _ _ (rw (c.in_ok-place.ensures, c.run.ensures) at (c.in_ok-ask_make_folder.ensures c.args.hand.now.kept)) (lift_err _ plan_cause plan_cause once_made _ _ _ _ _ made_same c.once_made.ensures c.in-Err.ensures.plan)
