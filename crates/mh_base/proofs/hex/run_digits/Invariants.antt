use Rattle.std.proofs.Common.{◌≡◌, ◌≤◌, ◌++◌, drop, length}
use Rattle.mh_base.specs.Numbers.{hex}
use Rattle.mh_base.proofs.hex.run_digits.Given as goal

abbrev pub invariant-loop-at : goal.invariant-loop-at
invariant-loop-at l = record {
  inside : l.at ≤ length l.digits;
  size : length l.digits ≡ 32;
  written : hex l.at l.rest ++ drop l.at l.digits ≡ hex 32 l.run;
}

abbrev pub decreases-loop-at : goal.decreases-loop-at
decreases-loop-at l = l.at
