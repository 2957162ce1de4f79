use Rattle.std.proofs.Common.{◌-◌, true, false, length, get_or, refl, sym, ◌∙◌, arith}
use Rattle.pick_expr.specs.Finishing.{finishes}
use Rattle.pick_expr.proofs.LineEnds.{found_first, found_more, found_on, found_passed}
use Rattle.pick_expr.proofs.finding.found.Goals as goal

pub loop-at-init : goal.loop-at-init
loop-at-init c =
    found_passed c.args.elements.now c.args.to_end c.args.line.now (length c.args.line.now) c.pass-at.result c.args.resting.now.last false
    (found_first c.args.elements.now c.args.to_end c.args.line.now c.args.resting.now.last false c.requires.resting.last (sym c.if-has.false ∙ c.has.ensures))
    c.pass-at.ensures.inside (c.pass-at.ensures.passes c.args.elements.now c.args.to_end c.requires.resting)

pub loop-at-preserved : goal.loop-at-preserved
loop-at-preserved c =
    found_passed c.args.elements.now c.args.to_end c.args.line.now (c.loop-at.at - 1) c.pass-at-in-loop-at.result c.step-places.result false
    (found_more c.args.elements.now c.args.to_end c.args.line.now c.loop-at.at (c.loop-at.at - 1) (get_or c.args.line.now (c.loop-at.at - 1) 0) c.loop-at.places
    c.step-places.result false c.loop-at.invariant (omega arith) refl c.step-places.ensures (sym c.if-has-2.false ∙ c.has-in-loop-at.ensures))
    c.pass-at-in-loop-at.ensures.inside (c.pass-at-in-loop-at.ensures.passes c.args.elements.now c.args.to_end c.requires.resting)

pub returns-then-has : goal.returns-then-has
returns-then-has c =
    let now = found_first c.args.elements.now c.args.to_end c.args.line.now c.args.resting.now.last true c.requires.resting.last (sym c.if-has.true ∙ c.has.ensures) in
    found_on (finishes c.args.elements.now c.args.to_end) c.args.line.now (length c.args.line.now) now.answer

pub returns-then-has-2 : goal.returns-then-has-2
returns-then-has-2 c =
    let now = found_more c.args.elements.now c.args.to_end c.args.line.now c.loop-at.at (c.loop-at.at - 1) (get_or c.args.line.now (c.loop-at.at - 1) 0) c.loop-at.places
    c.step-places.result true c.loop-at.invariant (omega arith) refl c.step-places.ensures (sym c.if-has-2.true ∙ c.has-in-loop-at.ensures) in
    found_on (finishes c.args.elements.now c.args.to_end) c.args.line.now (c.loop-at.at - 1) now.answer
