use Rattle.mark_command.specs.Lines.{line_of, sequence_of}
use Rattle.told_folders.proofs.Loops.{all_made}
use Rattle.mark_command.proofs.lines.named_lines.Goals as goal

pub returns : goal.returns
returns c = all_made (λ n. line_of (sequence_of c.args.sequences.now n)) c.args.names.now c.loop-name.name-index c.loop-name.lines _ c.loop-name-test.false c.loop-name.invariant
