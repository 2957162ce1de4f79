use Rattle.pick_expr.proofs.MaskSteps.{IsMaskFrom}
use Rattle.pick_expr.proofs.masks.mask.Given as goal

abbrev pub invariant-loop-at : goal.invariant-loop-at
invariant-loop-at l = IsMaskFrom l.elements l.byte l.at l.mask

abbrev pub decreases-loop-at : goal.decreases-loop-at
decreases-loop-at l = l.at
