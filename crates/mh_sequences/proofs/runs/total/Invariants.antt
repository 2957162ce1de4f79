use Rattle.std.proofs.Common.{◌≡◌, ◌+◌, length, drop}
use Rattle.mh_sequences.specs.Runs.{numbers_of}
use Rattle.mh_sequences.proofs.runs.total.Given as goal

abbrev pub invariant-loop-run : goal.invariant-loop-run
invariant-loop-run l = l.total + length (numbers_of (drop l.run-index l.runs)) ≡ length (numbers_of l.fn.runs)
