use Rattle.std.proofs.Common.{length}
use Rattle.step_discipline.proofs.committing.+has_lock.Given as goal

abbrev pub decreases-has_lock : goal.decreases-has_lock
decreases-has_lock l = length l.own.now
