use Rattle.folder_room.proofs.Slotting.{LacksOnly}
use Rattle.folder_room.proofs.settled.without.Given as goal

abbrev pub invariant-loop-slot : goal.invariant-loop-slot
invariant-loop-slot l = LacksOnly l.name l.kept.items l.yielded
