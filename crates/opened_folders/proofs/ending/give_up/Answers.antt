use Rattle.file_plans.proofs.Following.{go_from, refuses, stop_from}
use Rattle.opening_plans.specs.Ending.{given_up}
use Rattle.command_stages.proofs.Causes.{stop_same}
use Rattle.opened_folders.proofs.ending.give_up.Goals as goal

pub returns-in_err-attempt_unlock : goal.returns-in_err-attempt_unlock
unfolding given_up
returns-in_err-attempt_unlock g c = λ h. stop_from _ stop_same (c.in_err-attempt_unlock.ensures h) c.from_residual.ensures

pub returns : goal.returns
unfolding given_up
returns g c = λ h. go_from _ _ (c.in_ok-attempt_unlock.ensures h) (refuses _ c.requires)
