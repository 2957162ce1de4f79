use Rattle.std.proofs.Common.{◌-◌, length}
use Rattle.pick_expr.specs.Finishing.{is_match}
use Rattle.pick_expr.proofs.BodyLines.{IsOnLine}
use Rattle.pick_expr.proofs.lines.matches_line.Given as goal

abbrev pub invariant-loop-at : goal.invariant-loop-at
invariant-loop-at l = IsOnLine (is_match l.pattern) l.body l.at

abbrev pub decreases-loop-at : goal.decreases-loop-at
decreases-loop-at l = length l.body - l.at
