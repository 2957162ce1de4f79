use Rattle.std.proofs.Common.{◌-◌, length}
use Rattle.pick_expr.proofs.ElementSteps.{AreRead}
use Rattle.pick_expr.proofs.elements.read_elements.Given as goal

abbrev pub invariant-loop-at : goal.invariant-loop-at
invariant-loop-at l = AreRead 127 l.text l.at l.elements

abbrev pub decreases-loop-at : goal.decreases-loop-at
decreases-loop-at l = length l.text - l.at
