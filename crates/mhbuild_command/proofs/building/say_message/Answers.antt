use Rattle.file_plans.proofs.Following.{lift_ok}
use Rattle.mhbuild_plans.proofs.Ends.{said_off}
use Rattle.mhbuild_command.proofs.building.say_message.Goals as goal

pub returns-in_err-say : goal.returns-in_err-say
returns-in_err-say g c = λ run h f. said_off _ _ _ _ _ _ (rw c.as_slice.ensures at (c.in_err-say.ensures run h f)) c.from_residual.ensures

pub returns : goal.returns
returns g c = λ run h f. lift_ok _ _ _ _ _ _ _ _ (rw c.as_slice.ensures at (c.in_ok-say.ensures run h f))
