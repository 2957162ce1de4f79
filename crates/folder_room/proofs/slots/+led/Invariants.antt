use Rattle.std.proofs.Common.{length}
use Rattle.folder_room.proofs.slots.+led.Given as goal

abbrev pub decreases-led : goal.decreases-led
decreases-led l = length l.pending.now
