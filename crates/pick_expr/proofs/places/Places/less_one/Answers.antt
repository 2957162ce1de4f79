use Rattle.pick_expr.proofs.OneBit.{one_less}
use Rattle.pick_expr.proofs.places.Places.less_one.Goals as goal

pub returns : goal.returns
returns c = λ i. one_less c.args.self.bits i
