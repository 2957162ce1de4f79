use Rattle.std.proofs.Common.{◌≤◌, drop, length}
use Rattle.pick_expr.specs.Finishing.{AreFinishing}
use Rattle.pick_expr.proofs.finding.reaches_start.Given as goal

abbrev pub invariant-loop-at : goal.invariant-loop-at
invariant-loop-at l = (l.at ≤ length l.line) × AreFinishing l.elements l.to_end (drop l.at l.line) l.places

abbrev pub decreases-loop-at : goal.decreases-loop-at
decreases-loop-at l = l.at
