use Rattle.file_plans.proofs.Following.{done}
use Rattle.told_folders.specs.Plans.{lines_said}
use Rattle.mark_command.proofs.saying.say_if.Goals as goal

pub returns-else-job : goal.returns-else-job
unfolding lines_said
returns-else-job g c = λ run h f. rw c.if-job.false done
