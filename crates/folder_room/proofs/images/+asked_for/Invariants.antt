use Rattle.std.proofs.Common.{length}
use Rattle.folder_room.proofs.images.+asked_for.Given as goal

abbrev pub decreases-asked_for : goal.decreases-asked_for
decreases-asked_for l = length l.keeps.now
