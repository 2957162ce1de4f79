use Rattle.std.proofs.Common.{refl}
use Rattle.file_plans.proofs.Following.{no_room, refuses}
use Rattle.step_plans.proofs.clearing.clear_listed.Goals as goal

pub returns-in-Names : goal.returns-in-Names
returns-in-Names g c = λ h. rw c.in-Names.is (rw c.as_slice.ensures at (c.clear.ensures h))

pub returns-in_err-place_gone-in-Gone : goal.returns-in_err-place_gone-in-Gone
returns-in_err-place_gone-in-Gone g c = λ h. no_room _ c.from_residual.ensures refl

pub returns-in_ok-place_gone-in-Gone : goal.returns-in_ok-place_gone-in-Gone
returns-in_ok-place_gone-in-Gone g c = λ h. rw (c.in-Gone.is, c.in_ok-place_gone-in-Gone.ensures) (refuses _ refl)
