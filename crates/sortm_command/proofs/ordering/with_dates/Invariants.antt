use Rattle.std.proofs.Common.{◌≡◌, ◌++◌, drop}
use Rattle.std.specs.List.{zip}
use Rattle.sortm_command.proofs.ordering.with_dates.Given as goal

abbrev pub invariant-loop-i : goal.invariant-loop-i
invariant-loop-i l = l.keyed.items ++ zip (drop l.i l.keys) (drop l.i l.numbers) ≡ zip l.keys l.numbers
