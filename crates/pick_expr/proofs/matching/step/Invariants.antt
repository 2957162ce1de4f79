use Rattle.pick_expr.proofs.LineEnds.{IsStepped}
use Rattle.pick_expr.proofs.matching.step.Given as goal

abbrev pub invariant-loop-at : goal.invariant-loop-at
invariant-loop-at l = IsStepped l.elements l.to_end l.byte l.places l.at l.next l.behind l.behind_now

abbrev pub decreases-loop-at : goal.decreases-loop-at
decreases-loop-at l = l.at
