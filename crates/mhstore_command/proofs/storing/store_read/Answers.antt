use Rattle.std.proofs.Common.{refl}
use Rattle.file_plans.proofs.Following.{no_room, refuses}
use Rattle.mhstore_command.proofs.storing.store_read.Goals as goal

pub returns-in-Long-clause-plan : goal.returns-in-Long-clause-plan
returns-in-Long-clause-plan g c = rw c.in-Long.is (refuses _ refl)

pub returns-in_err-message_gone-in-Gone-clause-plan : goal.returns-in_err-message_gone-in-Gone-clause-plan
returns-in_err-message_gone-in-Gone-clause-plan g c = no_room _ c.from_residual.ensures refl

pub returns-in_ok-message_gone-in-Gone-clause-plan : goal.returns-in_ok-message_gone-in-Gone-clause-plan
returns-in_ok-message_gone-in-Gone-clause-plan g c = rw (c.in-Gone.is, c.in_ok-message_gone-in-Gone.ensures) (refuses _ refl)
