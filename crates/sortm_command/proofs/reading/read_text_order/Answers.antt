use Rattle.std.proofs.Common.{refl}
use Rattle.file_plans.proofs.Following.{go, no_room, stop}
use Rattle.sortm_plans.specs.Reading.{text_order_read}
use Rattle.sortm_command.proofs.reading.read_text_order.Goals as goal
use Rattle.opening_plans.proofs.OneStep.{done_as}

pub returns-in_err-texts : goal.returns-in_err-texts
unfolding text_order_read
returns-in_err-texts g c = λ h. stop _ (c.in_err-texts.ensures h) c.from_residual.ensures

pub returns-in_err-order_by_texts : goal.returns-in_err-order_by_texts
unfolding text_order_read
returns-in_err-order_by_texts g c = λ h. go _ (c.in_ok-texts.ensures h) (no_room _ c.from_residual-in_err-order_by_texts.ensures refl)

pub returns : goal.returns
unfolding text_order_read
returns g c = λ h. go _ (c.in_ok-texts.ensures h) (done_as (c.in_ok-order_by_texts.ensures))
