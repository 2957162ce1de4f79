use Rattle.std.proofs.Common.{drop}
use Rattle.mh_sequences.specs.Runs.{has}
use Rattle.mh_sequences.proofs.Piling.{IsPiled}
use Rattle.mh_sequences.proofs.pile.set_of.Given as goal

abbrev pub invariant-loop-run : goal.invariant-loop-run
invariant-loop-run l = IsPiled (has l.run-items) l.set.runs (drop l.run-index l.run-items)
