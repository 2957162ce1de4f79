use Rattle.file_plans.proofs.Following.{beside, whole}
use Rattle.mhbuild_command.proofs.text.read_text.Goals as goal

pub returns-in-Some-clause-plan : goal.returns-in-Some-clause-plan
returns-in-Some-clause-plan g c = λ h o. rw c.in-Some.is (beside (whole (c.read_draft.ensures h)))
