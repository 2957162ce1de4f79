use Rattle.std.proofs.Common.{length}
use Rattle.step_discipline.proofs.ready.+was_made_with.Given as goal

abbrev pub decreases-was_made_with : goal.decreases-was_made_with
decreases-was_made_with l = length l.own.now
