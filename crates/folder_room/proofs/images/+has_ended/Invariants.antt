use Rattle.std.proofs.Common.{length}
use Rattle.folder_room.proofs.images.+has_ended.Given as goal

abbrev pub decreases-has_ended : goal.decreases-has_ended
decreases-has_ended l = length l.ended.now
