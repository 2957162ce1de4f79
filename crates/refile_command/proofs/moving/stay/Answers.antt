use Rattle.std.proofs.Common.{refl}
use Rattle.file_plans.proofs.Following.{done, go, no_room, stop}
use Rattle.refile_plans.specs.Refile.{messages_stay}
use Rattle.refile_command.proofs.moving.stay.Goals as goal

pub returns-in_err-numbers-clause-plan : goal.returns-in_err-numbers-clause-plan
returns-in_err-numbers-clause-plan g c = no_room _ c.from_residual.ensures refl

pub returns-in_err-copy_messages-clause-plan : goal.returns-in_err-copy_messages-clause-plan
unfolding messages_stay
returns-in_err-copy_messages-clause-plan g c = stop _ (rw (c.as_slice.ensures.value, c.in_ok-numbers.ensures, c.place.ensures) at c.in_err-copy_messages.ensures.plan) c.from_residual-in_err-copy_messages.ensures

pub returns-clause-plan : goal.returns-clause-plan
unfolding messages_stay
returns-clause-plan g c = go _ (rw (c.as_slice.ensures.value, c.in_ok-numbers.ensures, c.place.ensures) at c.in_ok-copy_messages.ensures.plan) done
