use Rattle.std.proofs.Common.{◌≡◌, drop}
use Rattle.mbox_drop.specs.Finding.{skipped}
use Rattle.mbox_drop.proofs.find.skip.Given as goal

abbrev pub invariant-loop-i : goal.invariant-loop-i
invariant-loop-i l = skipped l.place l.i (drop l.i l.bytes) ≡ skipped l.fn.from 0 l.bytes
