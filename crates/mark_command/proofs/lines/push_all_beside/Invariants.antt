use Rattle.std.proofs.Common.{◌≡◌, ◌++◌}
use Rattle.std.specs.Prelude.{map}
use Rattle.mh_sequences.specs.Sequences.{told_entry}
use Rattle.mark_command.specs.Lines.{lines_beside}
use Rattle.mark_command.proofs.lines.push_all_beside.Given as goal

abbrev pub invariant-loop-name : goal.invariant-loop-name
invariant-loop-name l = l.lines ++ lines_beside l.before (map told_entry l.name-iterator) ≡ l.fn.lines ++ lines_beside l.before (map told_entry l.fn.users)
