use Rattle.std.proofs.Common.{refl}
use Rattle.file_plans.proofs.Following.{go_from, stop_from, whole, no_room}
use Rattle.command_stages.proofs.Causes.{stop_same}
use Rattle.mhlist_plans.specs.Listing.{one_listed}
use Rattle.mhlist_command.proofs.rows.list_one.Goals as goal

pub returns-in_err-name : goal.returns-in_err-name
returns-in_err-name g c = λ h. no_room _ c.from_residual.ensures refl

pub returns-in_err-reading : goal.returns-in_err-reading
unfolding one_listed
returns-in_err-reading g c = λ h. stop_from _ stop_same (whole (rw c.in_ok-name.ensures.value at (c.in_err-reading.ensures h))) c.from_residual-in_err-reading.ensures

pub returns : goal.returns
unfolding one_listed
returns g c = λ h. go_from _ _ (whole (rw c.in_ok-name.ensures.value at (c.in_ok-reading.ensures h))) (c.list.ensures _ _ _)
