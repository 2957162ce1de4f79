use Rattle.std.proofs.Common.{rules}
use Rattle.folder_room.proofs.Coursing.{first_now}
use Rattle.folder_room.proofs.room.Room.new.Goals as goal

pub invariant_of-result : goal.invariant_of-result
invariant_of-result c = first_now c.in_ok-start.start c.args.world c.new.result (search rules) (search rules)
