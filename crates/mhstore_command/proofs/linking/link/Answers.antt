use Rattle.file_plans.proofs.Following.{go_from, stop_from}
use Rattle.step_plans.proofs.Faulting.{stop_same}
use Rattle.mhstore_plans.specs.Files.{linked}
use Rattle.mhstore_command.proofs.linking.link.Goals as goal

pub returns-in_err-entered : goal.returns-in_err-entered
unfolding linked
returns-in_err-entered g c = λ h. stop_from _ stop_same (c.in_err-entered.ensures h) c.from_residual.ensures

pub returns : goal.returns
unfolding linked
returns g c = λ h. go_from _ _ (c.in_ok-entered.ensures h) (c.free_by.ensures _ _)
