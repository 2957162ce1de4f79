use Rattle.std.proofs.Common.{length}
use Rattle.folder_room.proofs.files.+next_file.Given as goal

abbrev pub decreases-next_file : goal.decreases-next_file
decreases-next_file l = length l.files.now
