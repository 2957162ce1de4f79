use Rattle.std.proofs.Common.{◌≡◌, take}
use Rattle.line_rows.specs.Columns.{with_more}
use Rattle.line_rows.proofs.row.Row.put_bytes.Given as goal

abbrev pub invariant-loop-byte : goal.invariant-loop-byte
invariant-loop-byte l = l.self ≡ with_more l.initial.self (take l.byte-index l.bytes)
