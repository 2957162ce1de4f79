use Rattle.file_plans.proofs.Following.{go_from, stop_from}
use Rattle.step_plans.proofs.Faulting.{stop_same}
use Rattle.step_plans.specs.Locking.{temps_cleared}
use Rattle.step_plans.proofs.clearing.clear_temps.Goals as goal

pub returns-in_err-listing : goal.returns-in_err-listing
unfolding temps_cleared
returns-in_err-listing g c = λ h. stop_from _ stop_same (c.in_err-listing.ensures h) c.from_residual.ensures

pub returns : goal.returns
unfolding temps_cleared
returns g c = λ h. go_from _ _ (c.in_ok-listing.ensures h) (c.clear_listed.ensures h)
