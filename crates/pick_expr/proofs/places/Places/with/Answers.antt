use Rattle.pick_expr.proofs.OneBit.{placed}
use Rattle.pick_expr.proofs.places.Places.with.Goals as goal

pub returns : goal.returns
returns c = placed c.args.self.bits c.args.place c.requires
