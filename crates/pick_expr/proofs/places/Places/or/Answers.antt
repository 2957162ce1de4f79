use Rattle.pick_expr.proofs.OneBit.{in_either}
use Rattle.pick_expr.proofs.places.Places.or.Goals as goal

pub returns : goal.returns
returns c = λ i. in_either c.args.self.bits c.args.other.bits i
