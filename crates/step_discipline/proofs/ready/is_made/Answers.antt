use Rattle.std.proofs.Common.{rules}
use Rattle.step_discipline.proofs.Found.{there_iff, absent_iff}
use Rattle.step_discipline.proofs.ready.is_made.Goals as goal

pub returns-in-Some : goal.returns-in-Some
returns-in-Some c = there_iff _ _ _ c.in-Some.ensures (search rules)

pub returns-in-None : goal.returns-in-None
returns-in-None c = absent_iff _ _ c.in-None.ensures (search rules)
