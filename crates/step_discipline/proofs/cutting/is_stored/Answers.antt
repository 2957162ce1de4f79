use Rattle.std.proofs.Common.{rules}
use Rattle.step_discipline.proofs.Found.{neither_iff}
use Rattle.step_discipline.proofs.cutting.is_stored.Goals as goal

pub returns-in-None : goal.returns-in-None
returns-in-None c = neither_iff _ _ (λ s. c.in-None.ensures s.0 s.1.0 s.1.1) (search rules)
