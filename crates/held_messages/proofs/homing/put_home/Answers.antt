use Rattle.std.proofs.Common.{refl}
use Rattle.file_plans.proofs.Following.{no_room}
use Rattle.held_messages.specs.Settle.{homed}
use Rattle.held_messages.proofs.homing.put_home.Goals as goal

pub returns-in_err-held : goal.returns-in_err-held
unfolding homed
returns-in_err-held g c = λ h. no_room _ c.from_residual.ensures refl

pub returns : goal.returns
unfolding homed
returns g c = λ h. rw c.in_ok-held.ensures at (c.link_home.ensures h)
