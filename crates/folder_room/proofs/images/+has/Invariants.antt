use Rattle.std.proofs.Common.{length}
use Rattle.folder_room.proofs.images.+has.Given as goal

abbrev pub decreases-has : goal.decreases-has
decreases-has l = length l.numbers.now
