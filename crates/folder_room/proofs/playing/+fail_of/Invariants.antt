use Rattle.std.proofs.Common.{length}
use Rattle.folder_room.proofs.playing.+fail_of.Given as goal

abbrev pub decreases-fail_of : goal.decreases-fail_of
decreases-fail_of l = length l.turn.now
