use Rattle.pick_expr.proofs.OneBit.{in_both}
use Rattle.pick_expr.proofs.places.Places.and.Goals as goal

pub returns : goal.returns
returns c = λ i. in_both c.args.self.bits c.args.other.bits i
