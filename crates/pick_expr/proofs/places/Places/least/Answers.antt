use Rattle.std.proofs.Common.{refl, arith}
use Rattle.pick_expr.proofs.OneBit.{below_least}
use Rattle.pick_expr.proofs.places.Places.least.Goals as goal

pub returns : goal.returns
returns c = below_least c.args.self.bits _ (omega arith) refl
