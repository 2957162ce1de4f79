use Rattle.file_plans.proofs.Following.{go, stop}
use Rattle.refile_plans.proofs.Loops.{end, turn}
use Rattle.refile_command.proofs.removing.remove_all.Goals as goal

pub returns-in_err-remove : goal.returns-in_err-remove
returns-in_err-remove g c = λ h. c.loop-number.invariant h _ _ (turn _ _ _ _ _ _ _ _ _ c.loop-number-test.true c.number-item.is (stop _ (c.in_err-remove.ensures h) c.from_residual.ensures))

pub loop-number-preserved : goal.loop-number-preserved
loop-number-preserved g c = λ h z r f. c.loop-number.invariant h z r (turn _ _ _ _ _ _ _ _ _ c.loop-number-test.true c.number-item.is (go _ (c.in_ok-remove.ensures h) f))

pub returns : goal.returns
returns g c = λ h. c.loop-number.invariant h _ _ (end _ _ _ _ _ _ c.loop-number-test.false)
