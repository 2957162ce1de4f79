use Rattle.file_plans.proofs.Following.{go, stop, whole}
use Rattle.pick_plans.specs.Pick.{some_found}
use Rattle.pick_command.proofs.picking.find.Goals as goal

pub returns-in_err-found : goal.returns-in_err-found
unfolding some_found
returns-in_err-found g c = λ h. stop _ (whole (c.in_err-found.ensures h)) c.from_residual.ensures

pub returns : goal.returns
unfolding some_found
returns g c = λ h. go _ (whole (c.in_ok-found.ensures h)) (c.unless_none.ensures _ _ _)
