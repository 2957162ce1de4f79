use Rattle.file_plans.proofs.Following.{go, stop}
use Rattle.message_places.proofs.Turns.{none_dropped, one_dropped}
use Rattle.message_places.proofs.letting_go.drop_all.Goals as goal

pub returns-in_err-drop_one : goal.returns-in_err-drop_one
returns-in_err-drop_one g c = λ h. c.loop-one.invariant h _ _ (one_dropped _ _ _ _ _ c.loop-one-test.true c.one-item.is (stop _ (c.in_err-drop_one.ensures h) c.from_residual.ensures))

pub loop-one-preserved : goal.loop-one-preserved
loop-one-preserved g c = λ h z r f. c.loop-one.invariant h z r (one_dropped _ _ _ _ _ c.loop-one-test.true c.one-item.is (go _ (c.in_ok-drop_one.ensures h) f))

pub returns : goal.returns
returns g c = λ h. c.loop-one.invariant h _ _ (none_dropped _ _ _ _ c.loop-one-test.false)
