use Rattle.std.proofs.Common.{length, ◌-◌}
use Rattle.step_discipline.proofs.cutting.+are_stored.Given as goal

abbrev pub decreases-are_stored : goal.decreases-are_stored
decreases-are_stored l = length l.own.now - l.at
