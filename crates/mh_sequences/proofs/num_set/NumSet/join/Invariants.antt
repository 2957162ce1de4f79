use Rattle.std.proofs.Common.{◌-◌}
use Rattle.mh_sequences.specs.Runs.{AreRuns}
use Rattle.mh_sequences.proofs.Joining.{IsJoinedBelow}
use Rattle.mh_sequences.proofs.num_set.NumSet.join.Given as goal

abbrev pub invariant-loop-from : goal.invariant-loop-from
invariant-loop-from l = AreRuns l.joined.runs × IsJoinedBelow l.how l.self-inside.runs.runs l.other-inside.runs.runs l.joined.runs l.from

abbrev pub decreases-loop-from : goal.decreases-loop-from
decreases-loop-from l = 1000000 - l.from
