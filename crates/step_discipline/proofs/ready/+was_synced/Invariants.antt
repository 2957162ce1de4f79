use Rattle.std.proofs.Common.{length}
use Rattle.step_discipline.proofs.ready.+was_synced.Given as goal

abbrev pub decreases-was_synced : goal.decreases-was_synced
decreases-was_synced l = length l.own.now
