use Rattle.std.proofs.Common.{sym}
use Rattle.line_rows.proofs.FittingColumns.{item_more, more_none}
use Rattle.line_rows.proofs.row.Row.put_bytes.Goals as goal

pub loop-byte-init : goal.loop-byte-init
loop-byte-init c = sym (more_none c.args.self.now)

pub loop-byte-preserved : goal.loop-byte-preserved
loop-byte-preserved c =
    item_more c.args.self.now c.loop-byte.self c.put.new.self c.args.bytes.now c.loop-byte.byte-index c.from.result c.loop-byte-test.true c.from.ensures c.loop-byte.invariant c.in_ok-put.ensures
