use Rattle.file_plans.proofs.Following.{go_from, stop_from}
use Rattle.command_stages.proofs.Causes.{sink_same}
use Rattle.told_folders.proofs.Loops.{end, turn}
use Rattle.told_folders.proofs.saying.say_lines.Goals as goal

pub returns-in_err-say : goal.returns-in_err-say
returns-in_err-say g c = λ run h f. c.loop-line.invariant run h f _ _ (turn _ _ _ _ _ _ _ c.loop-line-test.true c.line-item.is (stop_from _ sink_same (rw c.as_slice.ensures at (c.in_err-say.ensures run h f)) c.from_residual.ensures))

pub loop-line-preserved : goal.loop-line-preserved
loop-line-preserved g c = λ run h f z r k. c.loop-line.invariant run h f z r (turn _ _ _ _ _ _ _ c.loop-line-test.true c.line-item.is (go_from _ _ (rw c.as_slice.ensures at (c.in_ok-say.ensures run h f)) k))

pub returns : goal.returns
returns g c = λ run h f. c.loop-line.invariant run h f _ _ (end _ _ _ _ c.loop-line-test.false)
