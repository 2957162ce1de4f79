use Rattle.std.proofs.Common.{length, ◌-◌}
use Rattle.step_discipline.proofs.discarding.+are_succeeded.Given as goal

abbrev pub decreases-are_succeeded : goal.decreases-are_succeeded
decreases-are_succeeded l = length l.own.now - l.at
