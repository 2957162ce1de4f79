use Rattle.std.proofs.Common.{length}
use Rattle.folder_room.proofs.settled.+settled.Given as goal

abbrev pub decreases-settled : goal.decreases-settled
decreases-settled l = length l.pending.now
