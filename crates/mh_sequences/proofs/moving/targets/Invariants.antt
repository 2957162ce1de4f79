use Rattle.std.proofs.Common.{drop}
use Rattle.mh_sequences.proofs.MovedPairs.{AreTargetsSoFar}
use Rattle.mh_sequences.proofs.moving.targets.Given as goal

abbrev pub invariant-loop-run : goal.invariant-loop-run
invariant-loop-run l = AreTargetsSoFar l.pairs l.run-items l.pile (drop l.run-index l.run-items)
