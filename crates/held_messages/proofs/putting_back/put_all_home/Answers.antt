use Rattle.std.proofs.Common.{refl}
use Rattle.file_plans.proofs.Following.{go, stop, no_room}
use Rattle.held_messages.proofs.Upward.{one_pair, no_pair}
use Rattle.held_messages.proofs.putting_back.put_all_home.Goals as goal

pub returns-in_err-end : goal.returns-in_err-end
returns-in_err-end g c = λ h. c.loop-pair.invariant.1 h _ _ (one_pair _ _ _ _ _ _ _ c.loop-pair-test.true c.pair-item.is (stop _ (c.in_err-end.ensures h) c.from_residual.ensures))

pub returns-in_err-push : goal.returns-in_err-push
returns-in_err-push g c = λ h. c.loop-pair.invariant.1 h _ _ (one_pair _ _ _ _ _ _ _ c.loop-pair-test.true c.pair-item.is (go _ (c.in_ok-end.ensures h) (no_room _ c.from_residual-in_err-push.ensures refl)))

pub loop-pair-preserved : goal.loop-pair-preserved
loop-pair-preserved g c = (c.highest_after-top.ensures.range, λ h z r f. c.loop-pair.invariant.1 h z r (one_pair _ _ _ _ _ _ _ c.loop-pair-test.true c.pair-item.is (go _ (c.in_ok-end.ensures h) (rw (← c.highest_after-top.ensures.value, ← c.in_ok-push.ensures.ok) f))))

pub returns : goal.returns
returns g c = λ h. c.loop-pair.invariant.1 h _ _ (no_pair _ _ _ _ _ _ c.loop-pair-test.false)
