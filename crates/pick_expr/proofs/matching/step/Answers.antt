use Rattle.std.proofs.Common.{◌-◌, arith}
use Rattle.pick_expr.proofs.LineEnds.{stepped_all, stepped_more}
use Rattle.pick_expr.proofs.matching.step.Goals as goal

pub loop-at-preserved : goal.loop-at-preserved
loop-at-preserved c =
    stepped_more c.args.elements.now c.args.to_end c.args.byte c.args.places c.loop-at.at (c.loop-at.at - 1) c.index-elements-at.result c.loop-at.next
    c.with_if-next-in-loop-at.result c.has-here.result c.loop-at.behind c.loop-at.behind_now c.fits_on-behind_now.result c.loop-at.invariant (omega arith)
    c.index-elements-at.is c.with_if-next-in-loop-at.ensures c.has-here.ensures c.fits_on-behind_now.ensures

pub returns-then-not-behind_now : goal.returns-then-not-behind_now
returns-then-not-behind_now c =
    stepped_all c.args.elements.now c.args.to_end c.args.byte c.args.places c.loop-at.at c.least-least.result c.loop-at.next c.loop-at.behind c.loop-at.behind_now
    c.loop-at.invariant c.least-least.ensures c.if-at-least.true c.if-not-behind_now.true
