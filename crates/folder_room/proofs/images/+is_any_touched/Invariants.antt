use Rattle.std.proofs.Common.{length}
use Rattle.folder_room.proofs.images.+is_any_touched.Given as goal

abbrev pub decreases-is_any_touched : goal.decreases-is_any_touched
decreases-is_any_touched l = length l.names.now
