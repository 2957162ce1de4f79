use Rattle.std.proofs.Common.{◌∷◌, [], sym, ap, ◌∙◌}
use Rattle.line_rows.specs.Columns.{Kept}
use Rattle.line_rows.proofs.FittingColumns.{character_cut, character_held, put_shut}
use Rattle.line_rows.proofs.row.Row.put.Goals as goal

pub returns-then-self : goal.returns-then-self
returns-then-self c = sym (put_shut c.args.self.now (c.args.c ∷ []) (sym (ap (λ (l : Kept). l.closed) c.self.view_is) ∙ c.if-self.true))

pub returns-in_ok-push : goal.returns-in_ok-push
returns-in_ok-push c =
    character_held c.args.self.now c.self.inside.text c.push.new.self c.self.inside.width c.self.inside.columns c.columns-columns.result c.args.c c.self.inside.closed
    c.self.view_is c.self.invariant.0 c.if-self.false c.columns-columns.ensures.value c.if-columns-self.true c.in_ok-push.ensures.ok

pub returns-else-columns-self : goal.returns-else-columns-self
returns-else-columns-self c =
    character_cut c.args.self.now c.self.inside.text c.self.inside.width c.self.inside.columns c.columns-columns.result c.args.c c.self.inside.closed
    c.self.view_is c.self.invariant.0 c.if-self.false c.columns-columns.ensures.value c.if-columns-self.false
