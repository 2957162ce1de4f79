use Rattle.std.proofs.Common.{refl}
use Rattle.file_plans.proofs.Following.{no_room}
use Rattle.sortm_command.proofs.moving.change_places.Goals as goal

pub returns-in_err-takes-clause-plan : goal.returns-in_err-takes-clause-plan
returns-in_err-takes-clause-plan g c = no_room _ c.from_residual.ensures refl

pub returns-clause-plan : goal.returns-clause-plan
returns-clause-plan g c = rw (c.as_slice.ensures, c.in_ok-takes.ensures) at c.move_all.ensures.plan
