use Rattle.std.proofs.Common.{refl}
use Rattle.file_plans.proofs.Following.{no_room}
use Rattle.step_plans.proofs.removing.remove.Goals as goal

pub returns-in_err-name : goal.returns-in_err-name
returns-in_err-name g c = λ h. no_room _ c.from_residual.ensures refl

pub returns-in_err-old : goal.returns-in_err-old
returns-in_err-old g c = λ h. no_room _ c.from_residual-in_err-old.ensures refl
