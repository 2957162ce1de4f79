use Rattle.std.proofs.Common.{drop}
use Rattle.std.specs.Prelude.{◌||◌}
use Rattle.mh_sequences.specs.Runs.{has}
use Rattle.mh_sequences.proofs.Piling.{IsPiled}
use Rattle.mh_sequences.proofs.pile.Pile.add_set.Given as goal

abbrev pub invariant-loop-run : goal.invariant-loop-run
invariant-loop-run l = IsPiled (λ n. has l.initial.self n || has l.run-items n) l.self (drop l.run-index l.run-items)
