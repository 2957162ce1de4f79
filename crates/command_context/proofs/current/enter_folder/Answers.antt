use Rattle.file_plans.proofs.Following.{go, stop}
use Rattle.command_plans.specs.Command.{folder_found}
use Rattle.command_plans.specs.Profile.{folder_of}
use Rattle.command_plans.proofs.Plans.{folder_chosen}
use Rattle.command_context.proofs.current.enter_folder.Goals as goal
use Rattle.mh_profile.specs.Reading.{entries_seen}

pub returns-in_err-enter_context-clause-plan : goal.returns-in_err-enter_context-clause-plan
unfolding folder_found
returns-in_err-enter_context-clause-plan g c = stop _ (rw c.requires at c.in_err-enter_context.ensures.plan) c.from_residual.ensures

pub returns-clause-plan : goal.returns-clause-plan
unfolding folder_found
returns-clause-plan g c =
    go _ (rw c.requires at c.in_ok-enter_context.ensures.plan)
    (folder_chosen (λ h. folder_of c.args.said (entries_seen h.context) c.args.profile.now) c.folder.result c.folder.ensures)
