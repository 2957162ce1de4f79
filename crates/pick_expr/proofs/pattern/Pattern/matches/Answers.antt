use Rattle.std.proofs.Common.{◌≡◌, ◌↔◌, true, ap, ◌∙◌, subst}
use Rattle.pick_expr.specs.Finishing.{finishes, found_by, is_match}
use Rattle.pick_expr.specs.Fitting.{Shape, Matches}
use Rattle.pick_expr.proofs.FittingPieces.{matches_start, matches_anywhere, match_start, match_anywhere}
use Rattle.pick_expr.proofs.pattern.Pattern.matches.Goals as goal

pub returns-then-self-clause-fits : goal.returns-then-self-clause-fits
returns-then-self-clause-fits c =
    subst (λ (z : Shape). (c.reaches_start.result ≡ true) ↔ Matches z c.args.line.now) c.self.view_is
    (matches_start c.self.inside.elements c.self.inside.from_start c.self.inside.to_end c.args.line.now c.reaches_start.result c.if-self.true
    (c.reaches_start.ensures ∙ ap (λ z. finishes z c.self.inside.to_end c.args.line.now) c.as_slice-elements.ensures))

pub returns-else-self-clause-fits : goal.returns-else-self-clause-fits
returns-else-self-clause-fits c =
    subst (λ (z : Shape). (c.found.result ≡ true) ↔ Matches z c.args.line.now) c.self.view_is
    (matches_anywhere c.self.inside.elements c.self.inside.from_start c.self.inside.to_end c.args.line.now c.found.result c.if-self.false
    (c.found.ensures ∙ ap (λ z. found_by (finishes z c.self.inside.to_end) c.args.line.now) c.as_slice-elements.ensures))

pub returns-then-self-clause-value : goal.returns-then-self-clause-value
returns-then-self-clause-value c =
    match_start c.self.inside.elements c.self.inside.from_start c.self.inside.to_end c.args.line.now c.if-self.true
    (c.reaches_start.ensures ∙ ap (λ z. finishes z c.self.inside.to_end c.args.line.now) c.as_slice-elements.ensures)
    ∙ ap (λ (z : Shape). is_match z c.args.line.now) c.self.view_is

pub returns-else-self-clause-value : goal.returns-else-self-clause-value
returns-else-self-clause-value c =
    match_anywhere c.self.inside.elements c.self.inside.from_start c.self.inside.to_end c.args.line.now c.if-self.false
    (c.found.ensures ∙ ap (λ z. found_by (finishes z c.self.inside.to_end) c.args.line.now) c.as_slice-elements.ensures)
    ∙ ap (λ (z : Shape). is_match z c.args.line.now) c.self.view_is
