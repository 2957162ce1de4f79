use Rattle.std.proofs.Common.{length}
use Rattle.step_discipline.proofs.committing.+has_base.Given as goal

abbrev pub decreases-has_base : goal.decreases-has_base
decreases-has_base l = length l.own.now
