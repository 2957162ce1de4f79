use Rattle.std.proofs.Common.{refl}
use Rattle.file_plans.specs.Asking.{create}
use Rattle.file_plans.proofs.Following.{go, stop, no_room, done}
use Rattle.file_plans.proofs.asking.ask_create.Goals as goal

pub returns-in_err-step-clause-plan : goal.returns-in_err-step-clause-plan
unfolding create
returns-in_err-step-clause-plan g c = λ h. no_room _ c.from_residual.ensures refl

pub returns-in_err-answer-clause-plan : goal.returns-in_err-answer-clause-plan
unfolding create
returns-in_err-answer-clause-plan g c = λ h. stop _ (rw c.in_ok-step.ensures at (c.in_err-answer.ensures.plan h)) c.from_residual-in_err-answer.ensures

pub returns-clause-plan : goal.returns-clause-plan
unfolding create
returns-clause-plan g c = λ h. rw c.entered_from.ensures (go _ (rw c.in_ok-step.ensures at (c.in_ok-answer.ensures.plan h)) done)
