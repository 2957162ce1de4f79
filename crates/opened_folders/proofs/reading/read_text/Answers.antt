use Rattle.std.proofs.Common.{refl}
use Rattle.file_plans.proofs.Following.{go_from, stop_from, no_room}
use Rattle.step_plans.proofs.Faulting.{stop_same}
use Rattle.opening_plans.specs.Opening.{sequences_read}
use Rattle.opened_folders.proofs.reading.read_text.Goals as goal

pub returns-in_err-name : goal.returns-in_err-name
returns-in_err-name g c = λ h. no_room _ c.from_residual.ensures refl

pub returns-in_err-reading : goal.returns-in_err-reading
unfolding sequences_read
returns-in_err-reading g c = λ h. stop_from _ stop_same (rw c.in_ok-name.ensures.value at (c.in_err-reading.ensures h)) c.from_residual-in_err-reading.ensures

pub returns : goal.returns
unfolding sequences_read
returns g c = λ h. go_from _ _ (rw c.in_ok-name.ensures.value at (c.in_ok-reading.ensures h)) (c.text_from.ensures _ _)
