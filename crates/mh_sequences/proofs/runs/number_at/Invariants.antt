use Rattle.std.proofs.Common.{◌≡◌, slice_get, drop}
use Rattle.mh_sequences.specs.Runs.{numbers_of}
use Rattle.mh_sequences.proofs.runs.number_at.Given as goal

abbrev pub invariant-loop-run : goal.invariant-loop-run
invariant-loop-run l = slice_get (numbers_of (drop l.run-index l.runs)) l.left ≡ slice_get (numbers_of l.fn.runs) l.fn.index
