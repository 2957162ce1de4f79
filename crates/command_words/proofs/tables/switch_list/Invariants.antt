use Rattle.std.proofs.Common.{◌≡◌, ◌++◌, drop, map}
use Rattle.command_words.specs.Tables.{switch_by}
use Rattle.command_words.proofs.tables.switch_list.Given as goal

abbrev pub invariant-loop-row : goal.invariant-loop-row
invariant-loop-row l = l.switches ++ map switch_by (drop l.row-index l.rows) ≡ map switch_by l.rows
