use Rattle.std.proofs.Common.{refl}
use Rattle.file_plans.proofs.Following.{go, no_room, stop}
use Rattle.message_places.proofs.Turns.{none_given, one_given}
use Rattle.message_places.proofs.giving.give_all.Goals as goal

pub returns-in_err-end : goal.returns-in_err-end
returns-in_err-end g c = λ h. c.loop-one.invariant.1 h _ _ (one_given _ _ _ _ _ _ _ c.loop-one-test.true c.one-item.is (stop _ (c.in_err-end.ensures h) c.from_residual.ensures))

pub returns-in_err-push : goal.returns-in_err-push
returns-in_err-push g c = λ h. c.loop-one.invariant.1 h _ _ (one_given _ _ _ _ _ _ _ c.loop-one-test.true c.one-item.is (go _ (c.in_ok-end.ensures h) (no_room _ c.from_residual-in_err-push.ensures refl)))

pub loop-one-preserved : goal.loop-one-preserved
loop-one-preserved g c = (c.higher-top.ensures.range, λ h z r f. c.loop-one.invariant.1 h z r (one_given _ _ _ _ _ _ _ c.loop-one-test.true c.one-item.is (go _ (c.in_ok-end.ensures h) (rw (← c.higher-top.ensures.value, ← c.in_ok-push.ensures.ok) f))))

pub returns : goal.returns
returns g c = λ h. c.loop-one.invariant.1 h _ _ (none_given _ _ _ _ _ _ c.loop-one-test.false)
