use Rattle.file_plans.proofs.Following.{go_from, stop_from}
use Rattle.step_plans.proofs.Faulting.{stop_same}
use Rattle.message_moves.specs.Moving.{content_read}
use Rattle.message_moves.proofs.reading.content.Goals as goal

pub returns-in_err-reading : goal.returns-in_err-reading
unfolding content_read
returns-in_err-reading g c = λ h. stop_from _ stop_same (c.in_err-reading.ensures h) c.from_residual.ensures

pub returns : goal.returns
unfolding content_read
returns g c = λ h. go_from _ _ (c.in_ok-reading.ensures h) (c.content_from.ensures _ _)
