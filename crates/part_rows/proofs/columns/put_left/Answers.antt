use Rattle.std.proofs.Common.{ap, ◌∙◌}
use Rattle.line_rows.specs.Columns.{with_more}
use Rattle.line_rows.proofs.FittingColumns.{on_ok}
use Rattle.part_rows.proofs.Encoding.{left_put}
use Rattle.part_rows.proofs.columns.put_left.Goals as goal

pub returns : goal.returns
returns c =
    on_ok c.put_spaces.result _ _
    (λ spaced. left_put c.args.line.now c.extend.new.self c.put_spaces.new.line c.args.text.now c.text.result.now c.as_bytes.result.now c.args.columns c.unfilled.result c.put_text.new.self
    (c.in_ok-put_text.ensures ∙ ap (λ r. with_more r c.args.text.now) c.new-row.ensures) c.text.ensures (c.as_bytes.ensures.value ∙ c.as_str.ensures.bytes) c.in_ok-extend.ensures.ok c.unfilled.ensures spaced)
    c.put_spaces.ensures
