use Rattle.std.proofs.Common.{refl, arith}
use Rattle.mbox_drop.specs.Readings.{read}
use Rattle.mbox_drop.proofs.counter.DropCounter.new.Goals as goal

pub returns : goal.returns
unfolding read
returns c = record { few = omega arith; counts = record { place = refl; size = refl; body = refl; count = refl; long = refl } }
