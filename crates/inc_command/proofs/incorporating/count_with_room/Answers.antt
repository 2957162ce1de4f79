use Rattle.file_plans.proofs.Following.{done, go, stop}
use Rattle.inc_plans.specs.Inc.{room_counted}
use Rattle.inc_command.proofs.incorporating.count_with_room.Goals as goal

pub returns-in_err-size : goal.returns-in_err-size
unfolding room_counted
returns-in_err-size g c = λ h. stop _ (c.in_err-size.ensures.plan h) c.from_residual.ensures

pub returns-in_err-ask_room : goal.returns-in_err-ask_room
unfolding room_counted
returns-in_err-ask_room g c = λ h. go _ (c.in_ok-size.ensures.plan h) (stop _ (c.in_err-ask_room.ensures _ _) c.from_residual-in_err-ask_room.ensures)

pub returns : goal.returns
unfolding room_counted
returns g c = λ h. go _ (c.in_ok-size.ensures.plan h) (go _ (c.in_ok-ask_room.ensures _ _) done)
