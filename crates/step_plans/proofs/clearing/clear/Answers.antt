use Rattle.file_plans.proofs.Following.{go, stop}
use Rattle.step_plans.proofs.TempNames.{one_name, no_name}
use Rattle.step_plans.proofs.clearing.clear.Goals as goal

pub returns-in_err-clear_one : goal.returns-in_err-clear_one
returns-in_err-clear_one g c = λ h. c.loop-name.invariant h _ _ (one_name _ _ _ _ _ c.loop-name-test.true c.name-item.is (stop _ (c.in_err-clear_one.ensures h) c.from_residual.ensures))

pub loop-name-preserved : goal.loop-name-preserved
loop-name-preserved g c = λ h z r f. c.loop-name.invariant h z r (one_name _ _ _ _ _ c.loop-name-test.true c.name-item.is (go _ (c.in_ok-clear_one.ensures h) f))

pub returns : goal.returns
returns g c = λ h. c.loop-name.invariant h _ _ (no_name _ _ _ _ c.loop-name-test.false)
