use Rattle.std.proofs.Common.{refl}
use Rattle.file_plans.specs.Asking.{read_drop}
use Rattle.file_plans.proofs.Following.{go, stop, no_room, done}
use Rattle.file_plans.proofs.asking.ask_read_drop.Goals as goal

pub returns-in_err-step : goal.returns-in_err-step
returns-in_err-step g c = λ h. no_room _ c.from_residual.ensures refl

pub returns-in_err-answer : goal.returns-in_err-answer
unfolding read_drop
returns-in_err-answer g c = λ h. stop _ (rw c.in_ok-step.ensures at (c.in_err-answer.ensures.plan h)) c.from_residual-in_err-answer.ensures

pub returns : goal.returns
unfolding read_drop
returns g c = λ h. rw c.drop_piece_from.ensures (go _ (rw c.in_ok-step.ensures at (c.in_ok-answer.ensures.plan h)) done)
