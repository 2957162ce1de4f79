use Rattle.file_plans.proofs.Following.{whole}
use Rattle.mhbuild_command.proofs.building.finish.Goals as goal

pub returns-in-Some-clause-plan : goal.returns-in-Some-clause-plan
returns-in-Some-clause-plan g c = rw c.in-Some.is (whole c.replace_draft.ensures.plan)
