use Rattle.file_plans.proofs.Following.{go_from, stop_from, done}
use Rattle.step_plans.proofs.Faulting.{stop_same}
use Rattle.step_plans.proofs.Trying.{lets_go}
use Rattle.step_plans.proofs.locking.let_go.Goals as goal

pub returns-in_err-ask_unlock : goal.returns-in_err-ask_unlock
returns-in_err-ask_unlock g c = λ h. lets_go _ _ (stop_from _ stop_same (c.in_err-ask_unlock.ensures h) c.from_residual.ensures)

pub returns : goal.returns
returns g c = λ h. lets_go _ _ (go_from _ _ (c.in_ok-ask_unlock.ensures h) done)
