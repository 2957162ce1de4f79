use Rattle.std.proofs.Common.{◌≡◌, ◌++◌, drop}
use Rattle.std.specs.Prelude.{map}
use Rattle.pick_plans.specs.Lines.{number_line}
use Rattle.pick_command.proofs.lines.number_lines.Given as goal

abbrev pub invariant-loop-number : goal.invariant-loop-number
invariant-loop-number l = l.lines ++ map number_line (drop l.number-index l.numbers) ≡ map number_line l.numbers
