use Rattle.told_folders.proofs.Loops.{all_made}
use Rattle.pick_plans.specs.Lines.{number_line}
use Rattle.pick_command.proofs.lines.number_lines.Goals as goal

pub returns : goal.returns
returns c = all_made number_line c.args.numbers.now c.loop-number.number-index c.loop-number.lines _ c.loop-number-test.false c.loop-number.invariant
