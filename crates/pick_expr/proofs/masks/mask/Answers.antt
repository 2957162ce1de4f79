use Rattle.std.proofs.Common.{◌-◌, arith}
use Rattle.pick_expr.proofs.MaskSteps.{mask_all, mask_first, mask_more}
use Rattle.pick_expr.proofs.masks.mask.Goals as goal

pub loop-at-init : goal.loop-at-init
loop-at-init c = mask_first c.args.elements.now c.args.byte c.none-mask.result c.none-mask.ensures

pub loop-at-preserved : goal.loop-at-preserved
loop-at-preserved c =
    mask_more c.args.elements.now c.args.byte c.loop-at.at (c.loop-at.at - 1) c.index-elements-at.result c.in-Once.atom c.loop-at.mask c.with_if-mask.result c.admits.result
    c.loop-at.invariant (omega arith) c.index-elements-at.is c.in-Once.is c.with_if-mask.ensures c.admits.ensures

pub returns : goal.returns
returns c = mask_all c.args.elements.now c.args.byte c.loop-at.at c.loop-at.mask c.loop-at.invariant c.loop-at-test.false
