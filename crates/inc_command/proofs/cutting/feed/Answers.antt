use Rattle.inc_plans.proofs.Cuts.{feeds_err}
use Rattle.inc_command.proofs.cutting.feed.Goals as goal

pub returns-in-Err-clause-value : goal.returns-in-Err-clause-value
returns-in-Err-clause-value c = λ d h. rw c.cut_fault.ensures (feeds_err d _ _ _ (c.in-Err.ensures.taken d h))
