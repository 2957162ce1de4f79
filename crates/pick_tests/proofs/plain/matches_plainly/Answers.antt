use Rattle.std.proofs.Common.{sym, ◌∙◌}
use Rattle.pick_expr.specs.Finishing.{finishes, found_by}
use Rattle.pick_expr.proofs.FittingPieces.{matches_start, matches_anywhere}
use Rattle.pick_tests.proofs.plain.matches_plainly.Goals as goal

pub returns-then-is_from_start : goal.returns-then-is_from_start
returns-then-is_from_start c =
    let p = c.args.pattern.now in
    matches_start p.elements p.from_start p.to_end c.args.line.now c.fits.result (sym c.is_from_start.ensures ∙ c.if-is_from_start.true)
    (c.fits.ensures ∙ (λ i. finishes (c.elements.ensures i) (c.is_to_end.ensures i) c.args.line.now))

pub returns-else-is_from_start : goal.returns-else-is_from_start
returns-else-is_from_start c =
    let p = c.args.pattern.now in
    matches_anywhere p.elements p.from_start p.to_end c.args.line.now c.fits_somewhere.result (sym c.is_from_start.ensures ∙ c.if-is_from_start.false)
    (c.fits_somewhere.ensures ∙ (λ i. found_by (finishes (c.elements-else-is_from_start.ensures i) (c.is_to_end-else-is_from_start.ensures i)) c.args.line.now))
