use Rattle.std.proofs.Common.{refl}
use Rattle.mbox_drop.specs.Readings.{read}
use Rattle.mbox_drop.proofs.cutter.DropCutter.new.Goals as goal

pub returns : goal.returns
unfolding read
returns c = record { going = refl; place = refl; hand = c.new.ensures.items; body = refl; begins = refl }
