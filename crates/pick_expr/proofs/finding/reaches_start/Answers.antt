use Rattle.std.proofs.Common.{◌-◌, get_or, refl, arith}
use Rattle.pick_expr.proofs.LineEnds.{started_first, started_more}
use Rattle.pick_expr.proofs.finding.reaches_start.Goals as goal

pub loop-at-init : goal.loop-at-init
loop-at-init c = (
  c.pass-at.ensures.inside,
  (c.pass-at.ensures.passes c.args.elements.now c.args.to_end c.requires.resting
      (started_first c.args.elements.now c.args.to_end c.args.line.now c.args.resting.now.last c.requires.resting.last)).0,
)

pub loop-at-preserved : goal.loop-at-preserved
loop-at-preserved c = (
  omega (arith, c.loop-at.invariant.0, c.pass-at-in-loop-at.ensures.inside),
  (c.pass-at-in-loop-at.ensures.passes c.args.elements.now c.args.to_end c.requires.resting
      (started_more c.args.elements.now c.args.to_end c.args.line.now c.loop-at.at (c.loop-at.at - 1) (get_or c.args.line.now (c.loop-at.at - 1) 0) c.loop-at.places
      c.step-places.result c.loop-at.invariant.1 c.loop-at.invariant.0 (omega arith) refl c.step-places.ensures)).0,
)
