use Rattle.std.proofs.Common.{refl}
use Rattle.file_plans.proofs.Following.{no_room}
use Rattle.pack_command.proofs.packing.tell_packed.Goals as goal

pub returns-in_err-listing-clause-plan : goal.returns-in_err-listing-clause-plan
returns-in_err-listing-clause-plan g c = no_room _ c.from_residual.ensures refl

pub returns-clause-plan : goal.returns-clause-plan
returns-clause-plan g c = rw c.in_ok-listing.ensures at c.tell_line.ensures.plan
