use Rattle.std.proofs.Common.{refl}
use Rattle.file_plans.proofs.Following.{go_from, stop_from, whole, no_room}
use Rattle.command_stages.proofs.Causes.{stop_same}
use Rattle.mhstore_plans.specs.Storing.{one_stored}
use Rattle.mhstore_command.proofs.storing.store_one.Goals as goal

pub returns-in_err-name-clause-plan : goal.returns-in_err-name-clause-plan
returns-in_err-name-clause-plan g c = no_room _ c.from_residual.ensures refl

pub returns-in_err-reading-clause-plan : goal.returns-in_err-reading-clause-plan
unfolding one_stored
returns-in_err-reading-clause-plan g c = stop_from _ stop_same (whole (rw (c.in_ok-name.ensures.value, c.run.ensures) at (c.in_err-reading.ensures c.args.hand.now.kept))) c.from_residual-in_err-reading.ensures

pub returns-clause-plan : goal.returns-clause-plan
unfolding one_stored
returns-clause-plan g c = go_from _ _ (whole (rw (c.in_ok-name.ensures.value, c.run.ensures) at (c.in_ok-reading.ensures c.args.hand.now.kept))) c.store_read.ensures.plan
