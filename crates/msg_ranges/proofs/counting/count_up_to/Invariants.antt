use Rattle.std.proofs.Common.{◌-◌, length}
use Rattle.msg_ranges.proofs.Sums.{IsCounted}
use Rattle.msg_ranges.proofs.counting.count_up_to.Given as goal

abbrev pub invariant-loop-run : goal.invariant-loop-run
invariant-loop-run l = IsCounted l.set.runs l.to l.i l.count

abbrev pub decreases-loop-run : goal.decreases-loop-run
decreases-loop-run l = length l.set.runs - l.i
