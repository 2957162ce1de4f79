use Rattle.file_plans.proofs.Following.{go, stop}
use Rattle.message_places.proofs.Turns.{none_taken, one_taken}
use Rattle.message_places.proofs.taking.take_all.Goals as goal

pub returns-in_err-take : goal.returns-in_err-take
returns-in_err-take g c = λ h. c.loop-number.invariant h _ _ (one_taken _ _ _ _ _ c.loop-number-test.true c.number-item.is (stop _ (c.in_err-take.ensures.plan h) c.from_residual.ensures))

pub loop-number-preserved : goal.loop-number-preserved
loop-number-preserved g c = λ h z r f. c.loop-number.invariant h z r (one_taken _ _ _ _ _ c.loop-number-test.true c.number-item.is (go _ (c.in_ok-take.ensures.plan h) f))

pub returns : goal.returns
returns g c = λ h. c.loop-number.invariant h _ _ (none_taken _ _ _ _ c.loop-number-test.false)
