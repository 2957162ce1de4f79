use Rattle.std.proofs.Common.{length}
use Rattle.step_discipline.proofs.ready.+was_ready.Given as goal

abbrev pub decreases-was_ready : goal.decreases-was_ready
decreases-was_ready l = length l.own.now
