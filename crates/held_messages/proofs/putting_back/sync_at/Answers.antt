use Rattle.std.proofs.Common.{refl}
use Rattle.file_plans.proofs.Following.{no_room}
use Rattle.held_messages.proofs.putting_back.sync_at.Goals as goal

pub returns-in_err-name : goal.returns-in_err-name
returns-in_err-name g c = λ h. no_room _ c.from_residual.ensures refl
