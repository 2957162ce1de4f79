use Rattle.std.proofs.Common.{refl}
use Rattle.file_plans.proofs.Following.{no_room}
use Rattle.mhlist_command.proofs.rows.say_header.Goals as goal

pub returns-in_err-header_line : goal.returns-in_err-header_line
returns-in_err-header_line g c = λ run h f. no_room _ c.from_residual.ensures refl

pub returns-in_err-push : goal.returns-in_err-push
returns-in_err-push g c = λ run h f. no_room _ c.from_residual-in_err-push.ensures refl
