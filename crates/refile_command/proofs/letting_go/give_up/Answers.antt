use Rattle.file_plans.proofs.Following.{go_from, stop_from}
use Rattle.command_stages.proofs.Causes.{stop_same}
use Rattle.refile_plans.specs.Gathering.{all_given_up}
use Rattle.refile_command.proofs.letting_go.give_up.Goals as goal

pub returns-in_err-attempt_unlock : goal.returns-in_err-attempt_unlock
unfolding all_given_up
returns-in_err-attempt_unlock g c = λ h. stop_from _ stop_same (rw c.place.ensures at (c.in_err-attempt_unlock.ensures h)) c.from_residual.ensures

pub returns : goal.returns
unfolding all_given_up
returns g c = λ h. go_from _ _ (rw c.place.ensures at (c.in_ok-attempt_unlock.ensures h)) (c.give_up_all.ensures h)
