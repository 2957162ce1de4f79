use Rattle.std.proofs.Common.{refl}
use Rattle.file_plans.proofs.Following.{no_room}
use Rattle.pick_command.proofs.saying.say_found.Goals as goal

pub returns-in_err-lines : goal.returns-in_err-lines
returns-in_err-lines g c = λ run h f. no_room _ c.from_residual.ensures refl
