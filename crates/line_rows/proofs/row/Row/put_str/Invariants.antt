use Rattle.std.proofs.Common.{◌≡◌}
use Rattle.line_rows.specs.Columns.{with_more}
use Rattle.line_rows.proofs.row.Row.put_str.Given as goal

abbrev pub invariant-loop-c : goal.invariant-loop-c
invariant-loop-c l = l.self ≡ with_more l.initial.self l.yielded
