use Rattle.std.proofs.Common.{refl}
use Rattle.file_plans.proofs.Following.{go_from, no_room, stop_from}
use Rattle.command_stages.proofs.Causes.{stop_same}
use Rattle.pick_plans.specs.Testing.{one_tested}
use Rattle.pick_command.proofs.testing.test_one.Goals as goal

pub returns-in_err-name : goal.returns-in_err-name
returns-in_err-name g c = λ h. no_room _ c.from_residual.ensures refl

pub returns-in_err-reading : goal.returns-in_err-reading
unfolding one_tested
returns-in_err-reading g c = λ h. stop_from _ stop_same (rw c.in_ok-name.ensures.value at (c.in_err-reading.ensures h)) c.from_residual-in_err-reading.ensures

pub returns : goal.returns
unfolding one_tested
returns g c = λ h. go_from _ _ (rw c.in_ok-name.ensures.value at (c.in_ok-reading.ensures h)) (c.test_read.ensures _ _)
