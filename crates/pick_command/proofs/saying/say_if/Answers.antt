use Rattle.file_plans.proofs.Following.{done}
use Rattle.pick_command.proofs.saying.say_if.Goals as goal

pub returns-else-list : goal.returns-else-list
returns-else-list g c = λ run h f. rw c.if-list.false done
