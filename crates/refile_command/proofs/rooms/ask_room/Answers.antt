use Rattle.file_plans.proofs.Following.{go, stop}
use Rattle.refile_plans.proofs.RoomLeft.{all_rooms, next_room}
use Rattle.refile_command.proofs.rooms.ask_room.Goals as goal

pub returns-in_err-ask_room_in : goal.returns-in_err-ask_room_in
returns-in_err-ask_room_in c = λ run x. c.loop-one.invariant run x _ (next_room _ _ _ _ _ c.loop-one-test.true c.one-item.is (stop _ (c.in_err-ask_room_in.ensures run x) c.from_residual.ensures))

pub loop-one-preserved : goal.loop-one-preserved
loop-one-preserved c = λ run x r f. c.loop-one.invariant run x r (next_room _ _ _ _ _ c.loop-one-test.true c.one-item.is (go _ (c.in_ok-ask_room_in.ensures run x) f))

pub returns : goal.returns
returns c = λ run x. c.loop-one.invariant run x _ (all_rooms _ _ _ _ c.loop-one-test.false)
