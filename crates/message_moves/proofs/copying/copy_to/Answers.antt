use Rattle.std.proofs.Common.{refl}
use Rattle.file_plans.proofs.Following.{done, go, no_room, stop}
use Rattle.message_moves.specs.Copying.{copied_to}
use Rattle.message_moves.proofs.copying.copy_to.Goals as goal

pub returns-in_err-folder-clause-plan : goal.returns-in_err-folder-clause-plan
returns-in_err-folder-clause-plan g c = no_room _ c.from_residual.ensures refl

pub returns-in_err-place-clause-plan : goal.returns-in_err-place-clause-plan
returns-in_err-place-clause-plan g c = no_room _ c.from_residual-in_err-place.ensures refl

pub returns-in_err-number-clause-plan : goal.returns-in_err-number-clause-plan
unfolding copied_to
returns-in_err-number-clause-plan g c = stop _ c.in_err-number.ensures.plan c.from_residual-in_err-number.ensures

pub returns-clause-plan : goal.returns-clause-plan
unfolding copied_to
returns-clause-plan g c = go _ c.in_ok-number.ensures.plan (rw (c.in_ok-folder.ensures, c.in_ok-place.ensures) done)
