use Rattle.std.proofs.Common.{length}
use Rattle.folder_room.proofs.parents.+make_all.Given as goal

abbrev pub decreases-make_all : goal.decreases-make_all
decreases-make_all l = length l.places.now
