use Rattle.std.proofs.Common.{refl}
use Rattle.file_plans.proofs.Following.{go, stop, no_room, refuses, done}
use Rattle.held_messages.proofs.Upward.{one_number, no_number}
use Rattle.held_messages.proofs.homing.link_up.Goals as goal

pub returns-in_err-link_to : goal.returns-in_err-link_to
returns-in_err-link_to g c = λ h. c.loop-at.invariant h _ _ (one_number _ _ _ _ c.loop-at-test.true (stop _ (rw c.message_number-number.ensures at (c.in_err-link_to.ensures h)) c.from_residual.ensures))

pub returns-in-Done : goal.returns-in-Done
returns-in-Done g c = λ h. c.loop-at.invariant h _ _ (one_number _ _ _ _ c.loop-at-test.true (go _ (rw c.message_number-number.ensures at (c.in_ok-link_to.ensures h)) (rw (c.in-Done.is, c.message_number-number.ensures) done)))

pub returns-in_err-meddled-in-Gone : goal.returns-in_err-meddled-in-Gone
returns-in_err-meddled-in-Gone g c = λ h. c.loop-at.invariant h _ _ (one_number _ _ _ _ c.loop-at-test.true (go _ (rw c.message_number-number.ensures at (c.in_ok-link_to.ensures h)) (no_room _ c.from_residual-in_err-meddled-in-Gone.ensures refl)))

pub returns-in-Gone : goal.returns-in-Gone
returns-in-Gone g c = λ h. c.loop-at.invariant h _ _ (one_number _ _ _ _ c.loop-at-test.true (go _ (rw c.message_number-number.ensures at (c.in_ok-link_to.ensures h)) (rw (c.in-Gone.is, c.in_ok-meddled-in-Gone.ensures) (refuses _ refl))))

pub loop-at-preserved : goal.loop-at-preserved
loop-at-preserved g c = λ h z r f. c.loop-at.invariant h z r (one_number _ _ _ _ c.loop-at-test.true (go _ (rw c.message_number-number.ensures at (c.in_ok-link_to.ensures h)) (rw c.in-Exists.is f)))

pub returns : goal.returns
returns g c = λ h. c.loop-at.invariant h _ _ (no_number _ _ _ _ c.loop-at-test.false)
