use Rattle.std.proofs.Common.{◌≤◌, ◌-◌, length}
use Rattle.mbox_drop.proofs.Counts.{CountsOn}
use Rattle.mbox_drop.proofs.counter.DropCounter.feed.Given as goal

abbrev pub invariant-bytes : goal.invariant-bytes
invariant-bytes l = record {
  inside : l.i ≤ length l.piece;
  counts : CountsOn l.fn.self l.counter l.piece l.i;
}

abbrev pub decreases-bytes : goal.decreases-bytes
decreases-bytes l = length l.piece - l.i
