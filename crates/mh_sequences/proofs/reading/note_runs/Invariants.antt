use Rattle.std.proofs.Common.{drop}
use Rattle.mh_sequences.proofs.Mentioning.{AreNotedSoFar}
use Rattle.mh_sequences.proofs.reading.note_runs.Given as goal

abbrev pub invariant-loop-run : goal.invariant-loop-run
invariant-loop-run l = AreNotedSoFar l.name l.run-items (drop l.run-index l.run-items) l.initial.mentions l.mentions
