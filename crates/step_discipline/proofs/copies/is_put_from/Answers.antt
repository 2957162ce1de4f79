use Rattle.std.proofs.Common.{rules}
use Rattle.step_discipline.proofs.Found.{neither_iff}
use Rattle.step_discipline.proofs.copies.is_put_from.Goals as goal

pub returns-in-None : goal.returns-in-None
returns-in-None c = neither_iff _ _ (λ s. c.in-None.ensures c.args.put.now.place.now c.args.put.now.temp.now s) (search rules)
