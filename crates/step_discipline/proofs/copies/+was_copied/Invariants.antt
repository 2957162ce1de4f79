use Rattle.std.proofs.Common.{length}
use Rattle.step_discipline.proofs.copies.+was_copied.Given as goal

abbrev pub decreases-was_copied : goal.decreases-was_copied
decreases-was_copied l = length l.own.now
