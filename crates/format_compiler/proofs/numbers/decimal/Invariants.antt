use Rattle.std.proofs.Common.{◌≡◌, ◌≤◌, length}
use Rattle.format_compiler.specs.Arguments.{decimal_within}
use Rattle.format_compiler.proofs.numbers.decimal.Given as goal

abbrev pub invariant-loop-c : goal.invariant-loop-c
invariant-loop-c l = record {
  same : decimal_within l.limit l.number l.rest ≡ decimal_within l.limit 0 l.digits;
  small : l.number ≤ l.limit;
}

abbrev pub decreases-loop-c : goal.decreases-loop-c
decreases-loop-c l = length l.rest
