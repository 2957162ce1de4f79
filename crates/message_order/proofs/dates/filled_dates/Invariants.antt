use Rattle.std.proofs.Common.{◌≡◌, ◌++◌, drop}
use Rattle.std.specs.Prelude.{None}
use Rattle.message_order.proofs.Filling.{filled_behind}
use Rattle.message_order.proofs.dates.filled_dates.Given as goal

abbrev pub invariant-loop-date : goal.invariant-loop-date
invariant-loop-date l = l.keys.items ++ filled_behind l.last (drop l.date-index l.dates) ≡ filled_behind None l.dates
