use Rattle.std.proofs.Common.{length}
use Rattle.step_discipline.proofs.holding.+was_given.Given as goal

abbrev pub decreases-was_given : goal.decreases-was_given
decreases-was_given l = length l.own.now
