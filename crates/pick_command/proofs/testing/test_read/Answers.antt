use Rattle.std.proofs.Common.{refl}
use Rattle.file_plans.proofs.Following.{no_room, refuses}
use Rattle.opening_plans.proofs.OneStep.{done_as}
use Rattle.pick_command.proofs.testing.test_read.Goals as goal

pub returns-in_err-holds-in-Content : goal.returns-in_err-holds-in-Content
returns-in_err-holds-in-Content c = λ run x. no_room _ c.from_residual.ensures refl

pub returns-in_ok-holds-in-Content : goal.returns-in_ok-holds-in-Content
returns-in_ok-holds-in-Content c = λ run x. rw c.in-Content.is (done_as (rw (c.as_slice.ensures) at c.in_ok-holds-in-Content.ensures.value))

pub returns-in-Long : goal.returns-in-Long
returns-in-Long c = λ run x. rw c.in-Long.is (refuses _ refl)

pub returns-in_err-meddled-in-Gone : goal.returns-in_err-meddled-in-Gone
returns-in_err-meddled-in-Gone c = λ run x. no_room _ c.from_residual-in_err-meddled-in-Gone.ensures refl

pub returns-in_ok-meddled-in-Gone : goal.returns-in_ok-meddled-in-Gone
returns-in_ok-meddled-in-Gone c = λ run x. rw (c.in-Gone.is, c.in_ok-meddled-in-Gone.ensures) (refuses _ refl)
