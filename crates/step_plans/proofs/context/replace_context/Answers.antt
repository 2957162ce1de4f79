use Rattle.std.proofs.Common.{refl}
use Rattle.file_plans.proofs.Following.{no_room}
use Rattle.step_plans.proofs.ContextPlans.{too_long, not_long}
use Rattle.step_plans.proofs.context.replace_context.Goals as goal

pub returns-then-length-gt-LIMIT : goal.returns-then-length-gt-LIMIT
returns-then-length-gt-LIMIT g c = too_long _ _ _ _ c.len-length.ensures c.if-length-gt-LIMIT.true

pub returns-in_err-name : goal.returns-in_err-name
returns-in_err-name g c = no_room _ c.from_residual.ensures refl

pub returns : goal.returns
returns g c = not_long _ _ _ _ c.len-length.ensures c.if-length-gt-LIMIT.false (rw c.in_ok-name.ensures at c.replace.ensures)
