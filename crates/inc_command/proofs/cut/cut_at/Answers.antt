use Rattle.command_stages.proofs.Causes.{stop_same}
use Rattle.file_plans.proofs.Following.{go_from, stop_from}
use Rattle.inc_plans.specs.Inc.{drop_ended}
use Rattle.inc_command.proofs.cut.cut_at.Goals as goal

pub returns-in_err-cut : goal.returns-in_err-cut
unfolding drop_ended
returns-in_err-cut g c = λ h. stop_from _ stop_same (c.in_err-cut.ensures h) c.from_residual.ensures

pub returns : goal.returns
unfolding drop_ended
returns g c = λ h. go_from _ _ (c.in_ok-cut.ensures h) (c.cut_end.ensures _ _)
