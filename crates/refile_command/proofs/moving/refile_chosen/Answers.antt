use Rattle.std.proofs.Common.{refl}
use Rattle.file_plans.proofs.Following.{no_room}
use Rattle.refile_command.proofs.moving.refile_chosen.Goals as goal

pub returns-in_err-numbers-clause-plan : goal.returns-in_err-numbers-clause-plan
returns-in_err-numbers-clause-plan g c = no_room _ c.from_residual.ensures refl
