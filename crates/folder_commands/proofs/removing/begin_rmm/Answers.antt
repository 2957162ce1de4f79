use Rattle.std.proofs.Common.{refl}
use Rattle.file_plans.proofs.Following.{go, no_room, stop, whole}
use Rattle.command_plans.specs.Command.{rmm_begun}
use Rattle.folder_commands.proofs.removing.begin_rmm.Goals as goal

pub returns-in_err-folder : goal.returns-in_err-folder
unfolding rmm_begun
returns-in_err-folder g c = stop _ (whole c.in_err-folder.ensures.plan) c.from_residual.ensures

pub returns-in_err-negation : goal.returns-in_err-negation
unfolding rmm_begun
returns-in_err-negation g c = go _ (whole c.in_ok-folder.ensures.plan) (no_room _ c.from_residual-in_err-negation.ensures refl)

pub returns : goal.returns
unfolding rmm_begun
returns g c =
    go _ (whole c.in_ok-folder.ensures.plan)
    (rw (c.in_ok-folder.ensures.run, c.in_ok-folder.ensures.mail, c.requires, c.in_ok-negation.ensures) at c.rmm.ensures.plan)
