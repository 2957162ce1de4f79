use Rattle.std.proofs.Common.{refl}
use Rattle.file_plans.proofs.Following.{go, no_room, stop, whole}
use Rattle.command_plans.specs.Command.{store_begun}
use Rattle.command_line.proofs.storing.begin_mhstore.Goals as goal

pub returns-in_err-name : goal.returns-in_err-name
unfolding store_begun
returns-in_err-name g c = stop _ (whole c.in_err-name.ensures.plan) c.from_residual.ensures

pub returns-in_err-negation : goal.returns-in_err-negation
unfolding store_begun
returns-in_err-negation g c = go _ (whole c.in_ok-name.ensures.plan) (no_room _ c.from_residual-in_err-negation.ensures refl)

pub returns : goal.returns
unfolding store_begun
returns g c =
    go _ (whole c.in_ok-name.ensures.plan)
    (rw (c.in_ok-name.ensures.run, c.in_ok-name.ensures.mail, c.requires, c.in_ok-negation.ensures) at c.mhstore.ensures.plan)
