use Rattle.std.proofs.Common.{◌≡◌, drop}
use Rattle.command_line.specs.NameRows.{found}
use Rattle.command_line.proofs.name.found.Given as goal

abbrev pub invariant-loop-row : goal.invariant-loop-row
invariant-loop-row l = found l.word (drop l.row-index l.rows) ≡ found l.fn.word l.fn.rows
