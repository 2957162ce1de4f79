use Rattle.std.proofs.Common.{◌-◌, length}
use Rattle.pick_expr.proofs.ClassMembers.{AreRead}
use Rattle.pick_expr.proofs.class.read_members.Given as goal

abbrev pub invariant-loop-at : goal.invariant-loop-at
invariant-loop-at l = AreRead l.text l.at l.members.items

abbrev pub decreases-loop-at : goal.decreases-loop-at
decreases-loop-at l = length l.text - l.at
