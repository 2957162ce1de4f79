use Rattle.std.proofs.Common.{length}
use Rattle.folder_room.proofs.course.Course.+play.Given as goal

abbrev pub decreases-play : goal.decreases-play
decreases-play l = length l.turn.now
