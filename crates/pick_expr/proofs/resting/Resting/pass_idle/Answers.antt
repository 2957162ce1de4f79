use Rattle.std.proofs.Common.{◌-◌, drop, get_or, refl, arith}
use Rattle.pick_expr.proofs.PassedBytes.{passes_more}
use Rattle.pick_expr.proofs.resting.Resting.pass_idle.Goals as goal

pub loop-at-preserved : goal.loop-at-preserved
loop-at-preserved c = (
  omega (arith, c.loop-at.invariant.0),
  λ elements to_end resting.
      passes_more elements to_end c.args.self.now (drop c.args.from c.args.line.now) c.args.line.now c.loop-at.at (c.loop-at.at - 1) (get_or c.args.line.now (c.loop-at.at - 1) 0)
      resting (c.loop-at.invariant.1 elements to_end resting) (omega arith) (omega (arith, c.loop-at.invariant.0)) refl c.if-not-self-line.false,
)
