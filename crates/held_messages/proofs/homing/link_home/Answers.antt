use Rattle.std.proofs.Common.{refl}
use Rattle.file_plans.proofs.Following.{go, stop, no_room, refuses, done}
use Rattle.held_messages.proofs.homing.link_home.Goals as goal

pub returns-in_err-link_to : goal.returns-in_err-link_to
returns-in_err-link_to g c = λ h. stop _ ((c.in_err-link_to.ensures h)) c.from_residual.ensures

pub returns-in-Done : goal.returns-in-Done
returns-in-Done g c = λ h. go _ ((c.in_ok-link_to.ensures h)) (rw c.in-Done.is done)

pub returns-in-Exists : goal.returns-in-Exists
returns-in-Exists g c = λ h. go _ ((c.in_ok-link_to.ensures h)) (rw c.in-Exists.is (rw c.above-first.ensures.value at (c.link_up.ensures h)))

pub returns-in_err-meddled-in-Gone : goal.returns-in_err-meddled-in-Gone
returns-in_err-meddled-in-Gone g c = λ h. go _ ((c.in_ok-link_to.ensures h)) (no_room _ c.from_residual-in_err-meddled-in-Gone.ensures refl)

pub returns-in_ok-meddled-in-Gone : goal.returns-in_ok-meddled-in-Gone
returns-in_ok-meddled-in-Gone g c = λ h. go _ ((c.in_ok-link_to.ensures h)) (rw (c.in-Gone.is, c.in_ok-meddled-in-Gone.ensures) (refuses _ refl))
