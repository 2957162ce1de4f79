use Rattle.std.proofs.Common.{◌≡◌, length}
use Rattle.pick_expr.specs.Resting.{AreIdle}
use Rattle.pick_expr.proofs.resting.idle_bytes.Given as goal

abbrev pub invariant-loop-byte : goal.invariant-loop-byte
invariant-loop-byte l = AreIdle l.elements l.to_end l.places l.idle × (length l.idle ≡ 256)
