use Rattle.std.proofs.Common.{refl}
use Rattle.file_plans.proofs.Following.{put_done}
use Rattle.file_plans.proofs.speaking.say.Goals as goal

pub returns : goal.returns
returns g c = λ run h f. put_done _ _ _ _ _ _ _ _ c.put.ensures.put c.put.ensures.later c.put.ensures.cause refl refl
