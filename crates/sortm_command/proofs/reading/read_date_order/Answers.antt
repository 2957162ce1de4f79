use Rattle.std.proofs.Common.{refl}
use Rattle.file_plans.proofs.Following.{go, no_room, stop}
use Rattle.sortm_plans.specs.Reading.{date_order_read}
use Rattle.sortm_command.proofs.reading.read_date_order.Goals as goal
use Rattle.opening_plans.proofs.OneStep.{done_as}

pub returns-in_err-dates : goal.returns-in_err-dates
unfolding date_order_read
returns-in_err-dates g c = λ h. stop _ (c.in_err-dates.ensures h) c.from_residual.ensures

pub returns-in_err-order_by_dates : goal.returns-in_err-order_by_dates
unfolding date_order_read
returns-in_err-order_by_dates g c = λ h. go _ (c.in_ok-dates.ensures h) (no_room _ c.from_residual-in_err-order_by_dates.ensures refl)

pub returns : goal.returns
unfolding date_order_read
returns g c = λ h. go _ (c.in_ok-dates.ensures h) (done_as (rw c.as_slice.ensures at c.in_ok-order_by_dates.ensures))
