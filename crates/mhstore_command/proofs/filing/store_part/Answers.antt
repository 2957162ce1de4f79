use Rattle.std.proofs.Common.{refl}
use Rattle.file_plans.proofs.Following.{go, no_room, stop, whole}
use Rattle.mhstore_plans.specs.Storing.{one_filed}
use Rattle.mhstore_command.proofs.filing.store_part.Goals as goal

pub returns-in_err-name-clause-plan : goal.returns-in_err-name-clause-plan
returns-in_err-name-clause-plan g c = no_room _ c.from_residual.ensures refl

pub returns-in_err-line-clause-plan : goal.returns-in_err-line-clause-plan
returns-in_err-line-clause-plan g c = no_room _ c.from_residual-in_err-line.ensures refl

pub returns-in_err-content-clause-plan : goal.returns-in_err-content-clause-plan
returns-in_err-content-clause-plan g c = no_room _ c.from_residual-in_err-content.ensures refl

pub returns-in_err-free-clause-plan : goal.returns-in_err-free-clause-plan
unfolding one_filed
returns-in_err-free-clause-plan g c = stop _ (whole (rw (c.in_ok-name.ensures, c.in_ok-content.ensures) at c.in_err-free.ensures.plan)) c.from_residual-in_err-free.ensures

pub returns-clause-plan : goal.returns-clause-plan
unfolding one_filed
returns-clause-plan g c = go _ (whole (rw (c.in_ok-name.ensures, c.in_ok-content.ensures) at c.in_ok-free.ensures.plan)) (rw (c.in_ok-line.ensures, c.in_ok-name.ensures) at (c.tell.ensures c.args.hand.now.run c.store_in.new.hand.kept (g.F.Files.state c.store_in.new.files)))
