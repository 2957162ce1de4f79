use Rattle.file_plans.proofs.Following.{go, stop}
use Rattle.held_messages.specs.Settle.{settle}
use Rattle.held_messages.proofs.Upward.{settles_none, settles_some}
use Rattle.held_messages.proofs.putting_back.settle.Goals as goal

pub returns-in_err-ends : goal.returns-in_err-ends
unfolding settle
returns-in_err-ends g c = λ h. stop _ (c.in_err-ends.ensures h) c.from_residual.ensures

pub returns-in-Some : goal.returns-in-Some
unfolding settle
returns-in-Some g c = λ h. go _ (c.in_ok-ends.ensures h) (settles_some _ _ _ _ _ (rw c.as_slice.ensures at c.last_number.ensures) c.in-Some.is (c.drop_safely.ensures h))

pub returns-in-None : goal.returns-in-None
unfolding settle
returns-in-None g c = λ h. go _ (c.in_ok-ends.ensures h) (settles_none _ _ _ _ (rw c.as_slice.ensures at c.last_number.ensures) c.in-None.is)
