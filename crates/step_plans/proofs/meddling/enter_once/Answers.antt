use Rattle.std.proofs.Common.{refl}
use Rattle.file_plans.proofs.Following.{done, refuses, no_room}
use Rattle.step_plans.proofs.meddling.enter_once.Goals as goal

pub returns-in-Done : goal.returns-in-Done
returns-in-Done c = λ run x. rw c.in-Done.is done

pub returns-in_err-meddled-in-Exists : goal.returns-in_err-meddled-in-Exists
returns-in_err-meddled-in-Exists c = λ run x. no_room _ c.from_residual.ensures refl

pub returns-in_ok-meddled-in-Exists : goal.returns-in_ok-meddled-in-Exists
returns-in_ok-meddled-in-Exists c = λ run x. rw (c.in-Exists.is, c.in_ok-meddled-in-Exists.ensures) (refuses _ refl)

pub returns-in_err-meddled-in-Gone : goal.returns-in_err-meddled-in-Gone
returns-in_err-meddled-in-Gone c = λ run x. no_room _ c.from_residual-in_err-meddled-in-Gone.ensures refl

pub returns-in_ok-meddled-in-Gone : goal.returns-in_ok-meddled-in-Gone
returns-in_ok-meddled-in-Gone c = λ run x. rw (c.in-Gone.is, c.in_ok-meddled-in-Gone.ensures) (refuses _ refl)
