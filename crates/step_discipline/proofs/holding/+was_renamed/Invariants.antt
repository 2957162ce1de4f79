use Rattle.std.proofs.Common.{length}
use Rattle.step_discipline.proofs.holding.+was_renamed.Given as goal

abbrev pub decreases-was_renamed : goal.decreases-was_renamed
decreases-was_renamed l = length l.own.now
