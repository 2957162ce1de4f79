use Rattle.std.proofs.Common.{length}
use Rattle.step_discipline.proofs.copies.+was_copied_from.Given as goal

abbrev pub decreases-was_copied_from : goal.decreases-was_copied_from
decreases-was_copied_from l = length l.own.now
