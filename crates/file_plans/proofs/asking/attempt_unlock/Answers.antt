use Rattle.std.proofs.Common.{refl}
use Rattle.file_plans.specs.Asking.{attempt_unlock}
use Rattle.file_plans.proofs.Following.{go, stop, no_room, done}
use Rattle.file_plans.proofs.asking.attempt_unlock.Goals as goal

pub returns-in_err-place : goal.returns-in_err-place
returns-in_err-place g c = λ h. no_room _ c.from_residual.ensures refl

pub returns-in_err-answer : goal.returns-in_err-answer
unfolding attempt_unlock
returns-in_err-answer g c = λ h. stop _ (rw c.in_ok-place.ensures at (c.in_err-answer.ensures h)) c.from_residual-in_err-answer.ensures

pub returns : goal.returns
unfolding attempt_unlock
returns g c = λ h. go _ (rw c.in_ok-place.ensures at (c.in_ok-answer.ensures h)) done
