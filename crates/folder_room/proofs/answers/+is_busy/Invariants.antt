use Rattle.std.proofs.Common.{length}
use Rattle.folder_room.proofs.answers.+is_busy.Given as goal

abbrev pub decreases-is_busy : goal.decreases-is_busy
decreases-is_busy l = length l.locks.now
