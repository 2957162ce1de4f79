use Rattle.inc_plans.proofs.Cuts.{ends_err, ends_ok}
use Rattle.inc_command.proofs.cutting.end.Goals as goal

pub returns-in-Ok : goal.returns-in-Ok
returns-in-Ok c = λ d h. ends_ok d _ (c.in-Ok.ensures.taken d h)

pub returns-in-Err : goal.returns-in-Err
returns-in-Err c = λ d h. rw c.cut_fault.ensures (ends_err d _ (c.in-Err.ensures.taken d h))
