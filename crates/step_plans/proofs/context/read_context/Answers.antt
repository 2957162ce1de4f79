use Rattle.std.proofs.Common.{refl}
use Rattle.file_plans.proofs.Following.{go_from, stop_from, no_room}
use Rattle.step_plans.proofs.Faulting.{stop_same}
use Rattle.step_plans.specs.ContextCommit.{context_read}
use Rattle.step_plans.proofs.context.read_context.Goals as goal

pub returns-in_err-name : goal.returns-in_err-name
returns-in_err-name g c = λ h. no_room _ c.from_residual.ensures refl

pub returns-in_err-reading : goal.returns-in_err-reading
unfolding context_read
returns-in_err-reading g c = λ h. stop_from _ stop_same (rw c.in_ok-name.ensures at (c.in_err-reading.ensures h)) c.from_residual-in_err-reading.ensures

pub returns : goal.returns
unfolding context_read
returns g c = λ h. go_from _ _ (rw c.in_ok-name.ensures at (c.in_ok-reading.ensures h)) (c.entries_from.ensures _ _)
