use Rattle.std.proofs.Common.{refl}
use Rattle.file_plans.proofs.Following.{go, no_room, stop, whole}
use Rattle.command_plans.specs.Command.{refile_begun}
use Rattle.folder_commands.proofs.refiling.begin_refile.Goals as goal

pub returns-in_err-source : goal.returns-in_err-source
unfolding refile_begun
returns-in_err-source g c = stop _ (whole c.in_err-source.ensures.plan) c.from_residual.ensures

pub returns-in_err-negation : goal.returns-in_err-negation
unfolding refile_begun
returns-in_err-negation g c = go _ (whole c.in_ok-source.ensures.plan) (no_room _ c.from_residual-in_err-negation.ensures refl)

pub returns : goal.returns
unfolding refile_begun
returns g c =
    go _ (whole c.in_ok-source.ensures.plan)
    (rw (c.in_ok-source.ensures.run, c.in_ok-source.ensures.mail, c.requires, c.in_ok-negation.ensures, c.is_some-set_current.ensures) at c.refile.ensures.plan)
