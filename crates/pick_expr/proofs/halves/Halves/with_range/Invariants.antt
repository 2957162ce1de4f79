use Rattle.std.proofs.Common.{◌≡◌, ℕ, ◌<◌, ◌||◌, ◌&&◌, nat_le, nat_lt}
use Rattle.pick_expr.specs.Places.{in_halves}
use Rattle.pick_expr.proofs.halves.Halves.with_range.Given as goal

abbrev pub invariant-loop-byte : goal.invariant-loop-byte
invariant-loop-byte l = record {
  none : l.fn.high < l.fn.low → l.byte ≡ l.fn.low;
  all : (b : ℕ) → in_halves l.all b ≡ ((nat_le l.fn.low b && nat_lt b l.byte) || in_halves l.fn.self b);
}
