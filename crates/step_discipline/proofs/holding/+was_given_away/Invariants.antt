use Rattle.std.proofs.Common.{length}
use Rattle.step_discipline.proofs.holding.+was_given_away.Given as goal

abbrev pub decreases-was_given_away : goal.decreases-was_given_away
decreases-was_given_away l = length l.own.now
