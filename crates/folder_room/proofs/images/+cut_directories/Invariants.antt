use Rattle.std.proofs.Common.{length}
use Rattle.folder_room.proofs.images.+cut_directories.Given as goal

abbrev pub decreases-cut_directories : goal.decreases-cut_directories
decreases-cut_directories l = length l.directories.now
