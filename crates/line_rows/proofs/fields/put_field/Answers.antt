use Rattle.std.proofs.Common.{ap, ◌∙◌}
use Rattle.mail_text.specs.Stripping.{stripped}
use Rattle.line_rows.specs.Columns.{empty_line, with_more}
use Rattle.line_rows.proofs.FittingColumns.{on_ok}
use Rattle.line_rows.proofs.PrintedNumbers.{field_put}
use Rattle.line_rows.proofs.fields.put_field.Goals as goal

pub returns : goal.returns
returns c =
    on_ok c.fill.result _ _
    (λ last. field_put c.args.row.now c.put_text.new.self c.fill.new.self c.put_stripped.new.self c.args.columns c.unfilled.result (stripped c.args.text.now)
    (c.in_ok-put_stripped.ensures ∙ ap (λ l. with_more l (stripped c.args.text.now)) (c.new-field.ensures ∙ ap empty_line c.from.ensures)) (c.in_ok-put_text.ensures ∙ ap (with_more c.args.row.now) c.text.ensures) c.unfilled.ensures last)
    c.fill.ensures
