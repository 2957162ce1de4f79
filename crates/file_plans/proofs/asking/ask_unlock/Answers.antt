use Rattle.std.proofs.Common.{refl}
use Rattle.file_plans.specs.Asking.{unlock}
use Rattle.file_plans.proofs.Following.{go, stop, no_room, done}
use Rattle.file_plans.proofs.asking.ask_unlock.Goals as goal

pub returns-in_err-place : goal.returns-in_err-place
returns-in_err-place g c = λ h. no_room _ c.from_residual.ensures refl

pub returns-in_err-answer : goal.returns-in_err-answer
unfolding unlock
returns-in_err-answer g c = λ h. stop _ (rw c.in_ok-place.ensures at (c.in_err-answer.ensures.plan h)) c.from_residual-in_err-answer.ensures

pub returns : goal.returns
unfolding unlock
returns g c = λ h. go _ (rw c.in_ok-place.ensures at (c.in_ok-answer.ensures.plan h)) done
