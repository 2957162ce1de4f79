use Rattle.std.proofs.Common.{length}
use Rattle.step_discipline.proofs.cutting.+pieces.Given as goal

abbrev pub decreases-pieces : goal.decreases-pieces
decreases-pieces l = length l.own.now
