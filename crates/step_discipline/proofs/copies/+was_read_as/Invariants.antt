use Rattle.std.proofs.Common.{length}
use Rattle.step_discipline.proofs.copies.+was_read_as.Given as goal

abbrev pub decreases-was_read_as : goal.decreases-was_read_as
decreases-was_read_as l = length l.own.now
