use Rattle.std.proofs.Common.{rules}
use Rattle.step_discipline.proofs.Found.{absent_iff}
use Rattle.step_discipline.proofs.cutting.is_told.Goals as goal

pub returns-in-None : goal.returns-in-None
returns-in-None c = absent_iff _ _ (λ y p. c.in-None.ensures 0 c.args.length y p) (search rules)
