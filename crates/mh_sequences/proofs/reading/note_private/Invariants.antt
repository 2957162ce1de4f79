use Rattle.std.proofs.Common.{drop}
use Rattle.mh_sequences.proofs.Mentioning.{IsContextSoFar}
use Rattle.mh_sequences.proofs.reading.note_private.Given as goal

abbrev pub invariant-loop-index : goal.invariant-loop-index
invariant-loop-index l = IsContextSoFar l.context (drop l.index l.context) l.ending l.initial.mentions l.mentions
