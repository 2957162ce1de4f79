use Rattle.std.proofs.Common.{length}
use Rattle.step_discipline.proofs.copies.+was_copy_put.Given as goal

abbrev pub decreases-was_copy_put : goal.decreases-was_copy_put
decreases-was_copy_put l = length l.own.now
