use Rattle.std.proofs.Common.{refl}
use Rattle.file_plans.proofs.Following.{refuses}
use Rattle.inc_command.proofs.head.head_from.Goals as goal

pub returns-in-Gone-clause-plan : goal.returns-in-Gone-clause-plan
returns-in-Gone-clause-plan c = λ run x. rw c.in-Gone.is (refuses _ refl)
