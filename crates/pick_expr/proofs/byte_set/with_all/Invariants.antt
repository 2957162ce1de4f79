use Rattle.std.proofs.Common.{◌≡◌, ℕ, take}
use Rattle.pick_expr.specs.Atoms.{in_members}
use Rattle.pick_expr.specs.Places.{in_halves}
use Rattle.pick_expr.proofs.byte_set.with_all.Given as goal

abbrev pub invariant-loop-member : goal.invariant-loop-member
invariant-loop-member l = (b : ℕ) → in_halves l.halves b ≡ in_members (take l.member-index l.members) b
