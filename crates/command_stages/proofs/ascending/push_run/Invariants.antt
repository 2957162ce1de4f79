use Rattle.std.proofs.Common.{◌≡◌, ◌⊎◌, ◌++◌, ◌+◌, ◌-◌, ◌≤◌}
use Rattle.std.specs.List.{range_with_len}
use Rattle.command_stages.proofs.ascending.push_run.Given as goal

abbrev pub invariant-loop-number : goal.invariant-loop-number
invariant-loop-number l = record {
  items : l.numbers.items ≡ l.fn.numbers.items ++ range_with_len l.fn.run.from (l.number - l.fn.run.from);
  from : l.fn.run.from ≤ l.number;
  to : (l.number ≡ l.fn.run.from) ⊎ (l.number ≤ l.fn.run.to + 1);
}
