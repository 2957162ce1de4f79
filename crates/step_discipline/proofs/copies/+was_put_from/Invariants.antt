use Rattle.std.proofs.Common.{length}
use Rattle.step_discipline.proofs.copies.+was_put_from.Given as goal

abbrev pub decreases-was_put_from : goal.decreases-was_put_from
decreases-was_put_from l = length l.own.now
