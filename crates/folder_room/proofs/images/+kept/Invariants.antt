use Rattle.std.proofs.Common.{length}
use Rattle.folder_room.proofs.images.+kept.Given as goal

abbrev pub decreases-kept : goal.decreases-kept
decreases-kept l = length l.pending.now
