use Rattle.std.proofs.Common.{◌≡◌, ◌++◌, drop}
use Rattle.mh_sequences.specs.Runs.{numbers_of}
use Rattle.command_stages.proofs.ascending.numbers.Given as goal

abbrev pub invariant-loop-index : goal.invariant-loop-index
invariant-loop-index l = l.numbers.items ++ numbers_of (drop l.index l.set.runs) ≡ numbers_of l.set.runs
