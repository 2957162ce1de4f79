use Rattle.file_plans.proofs.Following.{go, stop, whole}
use Rattle.pick_plans.specs.Pick.{found_told}
use Rattle.pick_command.proofs.picking.tell.Goals as goal

pub returns-in_err-say_if-clause-plan : goal.returns-in_err-say_if-clause-plan
unfolding found_told
returns-in_err-say_if-clause-plan g c = stop _ (c.in_err-say_if.ensures _ _ _) c.from_residual.ensures

pub returns-clause-plan : goal.returns-clause-plan
unfolding found_told
returns-clause-plan g c = go _ (c.in_ok-say_if.ensures _ _ _) (whole c.make_current.ensures.plan)
