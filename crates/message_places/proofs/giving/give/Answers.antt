use Rattle.std.proofs.Common.{refl}
use Rattle.file_plans.proofs.Following.{done, go, no_room, refuses, stop}
use Rattle.message_places.specs.Arranging.{given}
use Rattle.message_places.proofs.giving.give.Goals as goal

pub returns-in_err-held : goal.returns-in_err-held
unfolding given
returns-in_err-held g c = λ h. no_room _ c.from_residual.ensures refl

pub returns-in_err-number : goal.returns-in_err-number
unfolding given
returns-in_err-number g c = λ h. stop _ (rw c.in_ok-held.ensures at (c.in_err-number.ensures h)) c.from_residual-in_err-number.ensures

pub returns-in-Some : goal.returns-in-Some
unfolding given
returns-in-Some g c = λ h. go _ (rw c.in_ok-held.ensures at (c.in_ok-number.ensures h)) (rw c.in-Some.is done)

pub returns : goal.returns
unfolding given
returns g c = λ h. go _ (rw c.in_ok-held.ensures at (c.in_ok-number.ensures h)) (rw c.in-None.is (refuses _ refl))
