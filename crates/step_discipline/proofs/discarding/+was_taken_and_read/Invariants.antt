use Rattle.std.proofs.Common.{length}
use Rattle.step_discipline.proofs.discarding.+was_taken_and_read.Given as goal

abbrev pub decreases-was_taken_and_read : goal.decreases-was_taken_and_read
decreases-was_taken_and_read l = length l.own.now
