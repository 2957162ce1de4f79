use Rattle.std.proofs.Common.{refl}
use Rattle.file_plans.proofs.Following.{no_room}
use Rattle.folder_command.proofs.looking.say_summary.Goals as goal

pub returns-in_err-summary : goal.returns-in_err-summary
returns-in_err-summary g c = λ run h f. no_room _ c.from_residual.ensures refl

pub returns-in_err-push : goal.returns-in_err-push
returns-in_err-push g c = λ run h f. no_room _ c.from_residual-in_err-push.ensures refl
