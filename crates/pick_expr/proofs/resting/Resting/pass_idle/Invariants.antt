use Rattle.std.proofs.Common.{◌≤◌, Bool, List, drop}
use Rattle.pick_expr.specs.declared.element.Element.{Element}
use Rattle.pick_expr.specs.Resting.{IsResting, Passes}
use Rattle.pick_expr.proofs.resting.Resting.pass_idle.Given as goal

abbrev pub invariant-loop-at : goal.invariant-loop-at
invariant-loop-at l = (l.at ≤ l.fn.from)
    × ((elements : List Element) (to_end : Bool) → IsResting elements to_end l.self
    → Passes elements to_end l.self.rest (drop l.fn.from l.line) (drop l.at l.line))

abbrev pub decreases-loop-at : goal.decreases-loop-at
decreases-loop-at l = l.at
