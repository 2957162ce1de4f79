use Rattle.std.proofs.Common.{◌≡◌, drop}
use Rattle.mh_sequences.specs.Edits.{grown}
use Rattle.mh_sequences.proofs.runs.absorb.Given as goal

abbrev pub invariant-loop-i : goal.invariant-loop-i
invariant-loop-i l = grown l.whole (drop l.i l.runs) ≡ grown l.fn.run l.runs
