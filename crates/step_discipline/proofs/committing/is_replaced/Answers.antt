use Rattle.std.proofs.Common.{rules}
use Rattle.step_discipline.proofs.Found.{missing_iff}
use Rattle.step_discipline.proofs.committing.is_replaced.Goals as goal

pub returns-in-None : goal.returns-in-None
returns-in-None c = missing_iff _ _ _ c.in-None.ensures (search rules)
