use Rattle.std.proofs.Common.{refl}
use Rattle.file_plans.proofs.Following.{no_room}
use Rattle.step_plans.proofs.ContextPlans.{settles, commits}
use Rattle.step_plans.proofs.context.commit_at.Goals as goal

pub returns-in_err-settled : goal.returns-in_err-settled
returns-in_err-settled g c = no_room _ c.from_residual.ensures refl

pub returns-then-settled : goal.returns-then-settled
returns-then-settled g c = settles _ _ _ _ _ c.in_ok-settled.ensures c.if-settled.true

pub returns-else-settled : goal.returns-else-settled
returns-else-settled g c = commits _ _ _ _ _ c.in_ok-settled.ensures c.if-settled.false c.commit.ensures
