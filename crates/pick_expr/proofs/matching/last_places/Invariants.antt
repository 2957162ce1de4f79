use Rattle.pick_expr.proofs.LineEnds.{IsLast}
use Rattle.pick_expr.proofs.matching.last_places.Given as goal

abbrev pub invariant-loop-at : goal.invariant-loop-at
invariant-loop-at l = IsLast l.elements l.at l.places

abbrev pub decreases-loop-at : goal.decreases-loop-at
decreases-loop-at l = l.at
