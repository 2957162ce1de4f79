use Rattle.std.proofs.Common.{false}
use Rattle.pick_expr.proofs.LineEnds.{IsFound}
use Rattle.pick_expr.proofs.finding.found.Given as goal

abbrev pub invariant-loop-at : goal.invariant-loop-at
invariant-loop-at l = IsFound l.elements l.to_end l.line l.at l.places false

abbrev pub decreases-loop-at : goal.decreases-loop-at
decreases-loop-at l = l.at
