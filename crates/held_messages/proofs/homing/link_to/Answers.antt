use Rattle.std.proofs.Common.{refl}
use Rattle.file_plans.proofs.Following.{no_room}
use Rattle.held_messages.proofs.Upward.{links, links_not}
use Rattle.held_messages.proofs.homing.link_to.Goals as goal

pub returns-in_err-name : goal.returns-in_err-name
returns-in_err-name g c = λ h. no_room _ c.from_residual.ensures refl

pub returns-in_err-ask_link : goal.returns-in_err-ask_link
returns-in_err-ask_link g c = λ h. links_not _ _ _ _ _ (rw c.in_ok-name.ensures at (c.in_err-ask_link.ensures h)) c.from_residual-in_err-ask_link.ensures

pub returns : goal.returns
returns g c = λ h. links _ _ _ _ (rw c.in_ok-name.ensures at (c.in_ok-ask_link.ensures h))
