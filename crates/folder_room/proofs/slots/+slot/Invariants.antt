use Rattle.std.proofs.Common.{length}
use Rattle.folder_room.proofs.slots.+slot.Given as goal

abbrev pub decreases-slot : goal.decreases-slot
decreases-slot l = length l.slots.now
