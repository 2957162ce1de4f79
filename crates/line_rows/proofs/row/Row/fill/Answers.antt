use Rattle.std.proofs.Common.{sym}
use Rattle.line_rows.proofs.FittingColumns.{copy_more, more_none}
use Rattle.line_rows.proofs.row.Row.fill.Goals as goal

pub loop-init : goal.loop-init
loop-init c = sym (more_none c.args.self.now)

pub loop-preserved : goal.loop-preserved
loop-preserved c = copy_more c.args.self.now c.loop.self c.put.new.self c.loop.counter c.args.c c.loop.invariant c.in_ok-put.ensures
