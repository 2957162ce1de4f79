use Rattle.std.proofs.Common.{◌≡◌, length}
use Rattle.pick_expr.specs.Masks.{AreMasks}
use Rattle.pick_expr.proofs.masks.all_masks.Given as goal

abbrev pub invariant-loop-byte : goal.invariant-loop-byte
invariant-loop-byte l = AreMasks l.elements l.masks.items × (length l.masks.items ≡ l.byte)
