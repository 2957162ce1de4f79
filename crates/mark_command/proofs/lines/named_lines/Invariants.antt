use Rattle.std.proofs.Common.{◌≡◌, ◌++◌, drop}
use Rattle.std.specs.Prelude.{map}
use Rattle.mark_command.specs.Lines.{line_of, sequence_of}
use Rattle.mark_command.proofs.lines.named_lines.Given as goal

abbrev pub invariant-loop-name : goal.invariant-loop-name
invariant-loop-name l = l.lines ++ map (λ n. line_of (sequence_of l.sequences n)) (drop l.name-index l.names) ≡ map (λ n. line_of (sequence_of l.sequences n)) l.names
