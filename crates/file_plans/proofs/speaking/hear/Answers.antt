use Rattle.std.proofs.Common.{refl}
use Rattle.file_plans.proofs.Following.{heard}
use Rattle.file_plans.proofs.speaking.hear.Goals as goal

pub returns : goal.returns
returns g c = λ run h f o. heard _ _ _ _ _ _ _ _ _ c.read.ensures.piece c.read.ensures.short c.read.ensures.later c.read.ensures.cause refl refl
