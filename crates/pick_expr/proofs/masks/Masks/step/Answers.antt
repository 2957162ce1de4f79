use Rattle.std.proofs.Common.{◌&&◌, ◌||◌, ◌∙◌, ap, arith}
use Rattle.pick_expr.specs.Places.{has_place}
use Rattle.pick_expr.proofs.MaskSteps.{step_masked}
use Rattle.pick_expr.proofs.masks.Masks.step.Goals as goal

pub returns-then-byte_at-len : goal.returns-then-byte_at-len
returns-then-byte_at-len c =
    step_masked c.args.elements.now c.args.to_end c.args.byte c.args.places c.index.result.now c.args.self.now.end c.or.result
    (c.requires.masks.by_byte c.args.byte c.index.result.now (omega (arith, c.len.ensures, c.if-byte_at-len.true)) c.index.ensures)
    c.requires.masks.end
    (λ i. c.or.ensures i ∙ ap (λ z. z || has_place c.args.self.now.end i) (c.and.ensures i ∙ ap (λ z. z && has_place c.index.result.now i) (c.less_one.ensures i)))
