use Rattle.std.proofs.Common.{[], length}
use Rattle.format_compiler.specs.Formats.{Stand}
use Rattle.format_compiler.proofs.reading.read_words.Given as goal

abbrev pub invariant-loop-rest : goal.invariant-loop-rest
invariant-loop-rest l = Stand l.words [] l.text l.conditionals l.rest

abbrev pub decreases-loop-rest : goal.decreases-loop-rest
decreases-loop-rest l = length l.rest
