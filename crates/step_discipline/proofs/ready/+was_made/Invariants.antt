use Rattle.std.proofs.Common.{length}
use Rattle.step_discipline.proofs.ready.+was_made.Given as goal

abbrev pub decreases-was_made : goal.decreases-was_made
decreases-was_made l = length l.own.now
