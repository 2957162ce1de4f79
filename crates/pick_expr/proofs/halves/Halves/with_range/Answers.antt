use Rattle.std.proofs.Common.{◌==◌, ◌||◌, ap, ◌∙◌, arith}
use Rattle.pick_expr.specs.Places.{in_halves}
use Rattle.pick_expr.proofs.ByteSets.{range_more, range_all}
use Rattle.pick_expr.proofs.halves.Halves.with_range.Goals as goal

pub loop-byte-preserved : goal.loop-byte-preserved
loop-byte-preserved c = record {
  none = (λ h. absurd (omega arith));
  all = (λ b. c.with-all.ensures b ∙ ap (λ z. b == c.loop-byte.byte || z) (c.loop-byte.invariant.all b) ∙ range_more c.args.low c.loop-byte.byte b (in_halves c.args.self b) (omega arith));
}

pub returns : goal.returns
returns c = λ b. c.loop-byte.invariant.all b ∙ ap (λ z. z || in_halves c.args.self b) (range_all c.args.low c.args.high c.loop-byte.byte b (omega arith) (λ h. omega arith) c.loop-byte.invariant.none)
