use Rattle.std.proofs.Common.{length}
use Rattle.step_discipline.proofs.ready.+has_failed.Given as goal

abbrev pub decreases-has_failed : goal.decreases-has_failed
decreases-has_failed l = length l.own.now
