use Rattle.file_plans.proofs.Following.{go_from, stop_from}
use Rattle.step_plans.proofs.Faulting.{stop_same}
use Rattle.step_plans.specs.Replacing.{created}
use Rattle.step_plans.proofs.writing.create.Goals as goal

pub returns-in_err-entered-clause-plan : goal.returns-in_err-entered-clause-plan
unfolding created
returns-in_err-entered-clause-plan g c = λ h. stop_from _ stop_same (c.in_err-entered.ensures.plan h) c.from_residual.ensures

pub returns-clause-plan : goal.returns-clause-plan
unfolding created
returns-clause-plan g c = λ h. go_from _ _ (c.in_ok-entered.ensures.plan h) (c.enter_once.ensures _ _)
