use Rattle.std.proofs.Common.{rules}
use Rattle.step_discipline.proofs.Found.{neither_iff}
use Rattle.step_discipline.proofs.holding.is_renamed.Goals as goal

pub returns-in-None : goal.returns-in-None
returns-in-None c = neither_iff _ _ (λ e. c.in-None.ensures _ e) (search rules)
