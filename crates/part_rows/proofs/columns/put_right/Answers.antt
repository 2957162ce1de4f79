use Rattle.std.proofs.Common.{◌∙◌}
use Rattle.line_rows.proofs.FittingColumns.{on_ok}
use Rattle.part_rows.proofs.Encoding.{right_put}
use Rattle.part_rows.proofs.columns.put_right.Goals as goal

pub returns : goal.returns
returns c =
    on_ok c.extend.result _ _
    (λ put. right_put c.args.line.now c.put_spaces.new.line c.extend.new.self c.args.text.now c.as_bytes.result.now c.args.columns c.saturating_sub.result c.char_count.result
    c.char_count.ensures c.saturating_sub.ensures c.in_ok-put_spaces.ensures (c.as_bytes.ensures.value ∙ c.as_str.ensures.bytes) put)
    c.extend.ensures.ok
