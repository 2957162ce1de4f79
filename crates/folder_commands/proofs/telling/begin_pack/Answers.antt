use Rattle.file_plans.proofs.Following.{go, stop, whole}
use Rattle.command_plans.specs.Command.{pack_begun}
use Rattle.folder_commands.proofs.telling.begin_pack.Goals as goal

pub returns-in_err-folder : goal.returns-in_err-folder
unfolding pack_begun
returns-in_err-folder g c = stop _ (whole c.in_err-folder.ensures.plan) c.from_residual.ensures

pub returns : goal.returns
unfolding pack_begun
returns g c = go _ (whole c.in_ok-folder.ensures.plan) (rw (c.in_ok-folder.ensures.run, c.in_ok-folder.ensures.mail, c.requires) at c.pack.ensures.plan)
