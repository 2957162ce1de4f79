use Rattle.std.proofs.Common.{length, ◌-◌}
use Rattle.step_discipline.proofs.discarding.+are_synced.Given as goal

abbrev pub decreases-are_synced : goal.decreases-are_synced
decreases-are_synced l = length l.own.now - l.at
