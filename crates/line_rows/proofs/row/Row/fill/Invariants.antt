use Rattle.std.proofs.Common.{◌≡◌}
use Rattle.std.specs.Prelude.{replicate}
use Rattle.line_rows.specs.Columns.{with_more}
use Rattle.line_rows.proofs.row.Row.fill.Given as goal

abbrev pub invariant-loop : goal.invariant-loop
invariant-loop l = l.self ≡ with_more l.initial.self (replicate l.counter l.c)
