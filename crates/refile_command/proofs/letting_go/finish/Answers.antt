use Rattle.file_plans.proofs.Following.{go, stop}
use Rattle.refile_plans.specs.Gathering.{all_finished}
use Rattle.refile_command.proofs.letting_go.finish.Goals as goal

pub returns-in_err-end : goal.returns-in_err-end
unfolding all_finished
returns-in_err-end g c = λ h. stop _ (rw c.place.ensures at (c.in_err-end.ensures h)) c.from_residual.ensures

pub returns : goal.returns
unfolding all_finished
returns g c = λ h. go _ (rw c.place.ensures at (c.in_ok-end.ensures h)) (c.finish_all.ensures h)
