use Rattle.file_plans.proofs.Following.{done, go_from, stop_from}
use Rattle.opening_plans.specs.Ending.{finished}
use Rattle.command_stages.proofs.Causes.{stop_same}
use Rattle.opened_folders.proofs.ending.finish.Goals as goal

pub returns-in_err-ask_unlock : goal.returns-in_err-ask_unlock
unfolding finished
returns-in_err-ask_unlock g c = λ h. stop_from _ stop_same (c.in_err-ask_unlock.ensures h) c.from_residual.ensures

pub returns : goal.returns
unfolding finished
returns g c = λ h. go_from _ _ (c.in_ok-ask_unlock.ensures h) done
