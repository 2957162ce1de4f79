use Rattle.std.proofs.Common.{refl}
use Rattle.file_plans.proofs.Following.{go, no_room, stop}
use Rattle.draft_contents.proofs.Turns.{all_read, one_read}
use Rattle.draft_contents.proofs.messages.read_messages.Goals as goal

pub loop-number-init : goal.loop-number-init
loop-number-init g c = λ h z r f. rw c.new-messages.ensures at f

pub returns-in_err-message : goal.returns-in_err-message
returns-in_err-message g c = λ h. c.loop-number.invariant h _ _ (one_read _ _ _ _ _ _ _ _ _ c.loop-number-test.true c.number-item.is (stop _ (c.in_err-message.ensures h) c.from_residual.ensures))

pub returns-in_err-push : goal.returns-in_err-push
returns-in_err-push g c = λ h. c.loop-number.invariant h _ _ (one_read _ _ _ _ _ _ _ _ _ c.loop-number-test.true c.number-item.is (go _ (c.in_ok-message.ensures h) (no_room _ c.from_residual-in_err-push.ensures refl)))

pub loop-number-preserved : goal.loop-number-preserved
loop-number-preserved g c = λ h z r f. c.loop-number.invariant h z r (one_read _ _ _ _ _ _ _ _ _ c.loop-number-test.true c.number-item.is (go _ (c.in_ok-message.ensures h) (rw c.in_ok-push.ensures.ok at f)))

pub returns : goal.returns
returns g c = λ h. c.loop-number.invariant h _ _ (all_read _ _ _ _ _ _ c.loop-number-test.false)
