use Rattle.std.proofs.Common.{arith}
use Rattle.line_rows.proofs.FittingColumns.{on_ok, two_more_as}
use Rattle.line_rows.proofs.PrintedNumbers.{last_cut}
use Rattle.line_rows.proofs.decimals.put_last.Goals as goal

pub returns : goal.returns
returns c =
    on_ok c.put_bytes.result _ _
    (λ last. two_more_as c.args.row.now c.put.new.self c.put_bytes.new.self _ _ _ c.in_ok-put.ensures last
    (last_cut c.args.decimal.now _ c.args.columns c.min-kept.result (omega arith) c.split_at.ensures.back))
    c.put_bytes.ensures
