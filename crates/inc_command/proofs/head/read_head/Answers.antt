use Rattle.command_stages.proofs.Causes.{stop_same}
use Rattle.file_plans.proofs.Following.{go_from, stop_from}
use Rattle.inc_plans.specs.Counting.{head_read}
use Rattle.inc_command.proofs.head.read_head.Goals as goal

pub returns-in_err-piece-clause-plan : goal.returns-in_err-piece-clause-plan
unfolding head_read
returns-in_err-piece-clause-plan g c = λ h. stop_from _ stop_same (c.in_err-piece.ensures h) c.from_residual.ensures

pub returns-clause-plan : goal.returns-clause-plan
unfolding head_read
returns-clause-plan g c = λ h. go_from _ _ (c.in_ok-piece.ensures h) (c.head_from.ensures.plan _ _)
