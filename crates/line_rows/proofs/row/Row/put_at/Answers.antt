use Rattle.std.proofs.Common.{[], ◌∷◌, sym, ap, ◌∙◌}
use Rattle.line_rows.specs.Columns.{with_more}
use Rattle.line_rows.proofs.FittingColumns.{more_none, on_ok, two_more_as}
use Rattle.mail_text.proofs.Lining.{gap_written, plain_written, spaced_written}
use Rattle.line_rows.proofs.row.Row.put_at.Goals as goal

pub returns-then-is_gap : goal.returns-then-is_gap
returns-then-is_gap c = sym (ap (with_more c.args.self.now) (gap_written c.args.spot c.args.c (sym c.is_gap.ensures ∙ c.if-is_gap.true)) ∙ more_none c.args.self.now)

pub returns-then-has_space : goal.returns-then-has_space
returns-then-has_space c =
    on_ok c.put-then-has_space.result _ _
    (λ last. two_more_as c.args.self.now c.put.new.self c.put-then-has_space.new.self (32 ∷ []) (c.args.c ∷ []) _ c.in_ok-put.ensures last
    (sym (spaced_written c.args.spot c.args.c (sym c.is_gap.ensures ∙ c.if-is_gap.false) (sym c.has_space.ensures ∙ c.if-has_space.true))))
    c.put-then-has_space.ensures

pub returns : goal.returns
returns c =
    on_ok c.put-2.result _ _
    (λ last. last ∙ ap (with_more c.args.self.now) (sym (plain_written c.args.spot c.args.c (sym c.is_gap.ensures ∙ c.if-is_gap.false) (sym c.has_space.ensures ∙ c.if-has_space.false))))
    c.put-2.ensures
