use Rattle.file_plans.proofs.Following.{done}
use Rattle.inc_command.proofs.cut.cut_drop.Goals as goal

pub returns-else-truncate : goal.returns-else-truncate
returns-else-truncate g c = λ h. rw c.if-truncate.false done
