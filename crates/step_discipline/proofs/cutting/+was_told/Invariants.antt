use Rattle.std.proofs.Common.{length}
use Rattle.step_discipline.proofs.cutting.+was_told.Given as goal

abbrev pub decreases-was_told : goal.decreases-was_told
decreases-was_told l = length l.own.now
