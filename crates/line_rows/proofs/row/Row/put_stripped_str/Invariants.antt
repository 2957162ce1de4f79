use Rattle.std.proofs.Common.{◌≡◌}
use Rattle.mail_text.specs.declared.stripping.Spot.TheVariants.{Front}
use Rattle.mail_text.specs.OneLine.{line_from, spot_from}
use Rattle.line_rows.specs.Columns.{with_more}
use Rattle.line_rows.proofs.row.Row.put_stripped_str.Given as goal

abbrev pub invariant-loop-c : goal.invariant-loop-c
invariant-loop-c l = (l.self ≡ with_more l.initial.self (line_from Front l.yielded)) × (l.spot ≡ spot_from Front l.yielded)
