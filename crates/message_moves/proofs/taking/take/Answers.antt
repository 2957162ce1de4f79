use Rattle.std.proofs.Common.{refl}
use Rattle.file_plans.proofs.Following.{done, go, no_room, stop}
use Rattle.message_moves.specs.Moving.{number_taken}
use Rattle.message_moves.proofs.taking.take.Goals as goal

pub returns-in_err-name-clause-plan : goal.returns-in_err-name-clause-plan
returns-in_err-name-clause-plan g c = λ h. no_room _ c.from_residual.ensures refl

pub returns-in_err-held-clause-plan : goal.returns-in_err-held-clause-plan
returns-in_err-held-clause-plan g c = λ h. no_room _ c.from_residual-in_err-held.ensures refl

pub returns-in_err-rename-clause-plan : goal.returns-in_err-rename-clause-plan
unfolding number_taken
returns-in_err-rename-clause-plan g c = λ h. stop _ (rw (c.in_ok-name.ensures.value, c.in_ok-held.ensures.value) at (c.in_err-rename.ensures h)) c.from_residual-in_err-rename.ensures

pub returns-clause-plan : goal.returns-clause-plan
unfolding number_taken
returns-clause-plan g c = λ h. go _ (rw (c.in_ok-name.ensures.value, c.in_ok-held.ensures.value) at (c.in_ok-rename.ensures h)) (rw c.in_ok-held.ensures.value done)
