use Rattle.std.proofs.Common.{refl}
use Rattle.file_plans.proofs.Following.{no_room}
use Rattle.message_places.proofs.letting_go.drop_one.Goals as goal

pub returns-in_err-held : goal.returns-in_err-held
returns-in_err-held g c = λ h. no_room _ c.from_residual.ensures refl
