use Rattle.std.proofs.Common.{rules}
use Rattle.step_discipline.proofs.Found.{absent_iff}
use Rattle.step_discipline.proofs.reading.is_read.Goals as goal

pub returns-in-None : goal.returns-in-None
returns-in-None c = absent_iff _ _ c.in-None.ensures (search rules)
