use Rattle.std.proofs.Common.{refl}
use Rattle.file_plans.proofs.Following.{done, no_room, refuses}
use Rattle.mhstore_command.proofs.linking.free_by.Goals as goal

pub returns-in_err-meddled-in-Gone : goal.returns-in_err-meddled-in-Gone
returns-in_err-meddled-in-Gone c = λ run x. no_room _ c.from_residual.ensures refl

pub returns-in-Done : goal.returns-in-Done
returns-in-Done c = λ run x. rw c.in-Done.is done

pub returns-in-Exists : goal.returns-in-Exists
returns-in-Exists c = λ run x. rw c.in-Exists.is done

pub returns-in_ok-meddled-in-Gone : goal.returns-in_ok-meddled-in-Gone
returns-in_ok-meddled-in-Gone c = λ run x. rw (c.in-Gone.is, c.in_ok-meddled-in-Gone.ensures) (refuses _ refl)
