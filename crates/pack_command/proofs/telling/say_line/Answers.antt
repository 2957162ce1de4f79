use Rattle.std.proofs.Common.{refl}
use Rattle.file_plans.proofs.Following.{no_room}
use Rattle.pack_command.proofs.telling.say_line.Goals as goal

pub returns-in_err-told : goal.returns-in_err-told
returns-in_err-told g c = λ run h f. no_room _ c.from_residual.ensures refl

pub returns : goal.returns
returns g c = rw c.in_ok-told.ensures at c.say_summary.ensures
