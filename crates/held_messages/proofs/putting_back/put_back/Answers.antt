use Rattle.std.proofs.Common.{refl}
use Rattle.file_plans.specs.Follows.{by_hand}
use Rattle.file_plans.specs.Plan.{fresh}
use Rattle.file_plans.proofs.Following.{go, go_from, stop, stop_from, no_room, done}
use Rattle.step_plans.proofs.Faulting.{stop_same}
use Rattle.held_messages.specs.Settle.{put_back}
use Rattle.held_messages.proofs.LoneSettling.{settles_alone}
use Rattle.held_messages.proofs.putting_back.put_back.Goals as goal

pub returns-in_err-listing-clause-plan : goal.returns-in_err-listing-clause-plan
unfolding put_back
returns-in_err-listing-clause-plan g c = λ h. stop_from _ stop_same (c.in_err-listing.ensures h) c.from_residual.ensures

pub returns-in_err-names-clause-plan : goal.returns-in_err-names-clause-plan
unfolding put_back
returns-in_err-names-clause-plan g c = λ h. go_from _ _ (c.in_ok-listing.ensures h) (stop _ (c.in_err-names.ensures _ _) c.from_residual-in_err-names.ensures)

pub returns-in_err-pairs-clause-plan : goal.returns-in_err-pairs-clause-plan
unfolding put_back
returns-in_err-pairs-clause-plan g c = λ h. go_from _ _ (c.in_ok-listing.ensures h) (go _ (c.in_ok-names.ensures _ _) (no_room _ c.from_residual-in_err-pairs.ensures refl))

pub returns-in_err-ends-clause-plan : goal.returns-in_err-ends-clause-plan
unfolding put_back
returns-in_err-ends-clause-plan g c = λ h.
    go_from _ _ (c.in_ok-listing.ensures h)
    (go _ (c.in_ok-names.ensures _ _)
    (stop _ (rw (c.deref.ensures.value, c.in_ok-pairs.ensures, c.as_slice.ensures, c.highest-highest.ensures.value, c.as_slice-2.ensures) at (c.in_err-ends.ensures h)) c.from_residual-in_err-ends.ensures))

pub returns-clause-plan : goal.returns-clause-plan
unfolding put_back
returns-clause-plan g c = λ h.
    go_from _ _ (c.in_ok-listing.ensures h)
    (go _ (c.in_ok-names.ensures _ _)
    (go _ (rw (c.deref.ensures.value, c.in_ok-pairs.ensures, c.as_slice.ensures, c.highest-highest.ensures.value, c.as_slice-2.ensures) at (c.in_ok-ends.ensures h)) done))

pub returns-clause-alone : goal.returns-clause-alone
returns-clause-alone g c = settles_alone _ _ (by_hand fresh _) (by_hand fresh _) _ (returns-clause-plan g c fresh)
