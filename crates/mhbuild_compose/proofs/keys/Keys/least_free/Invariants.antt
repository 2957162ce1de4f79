use Rattle.std.proofs.Common.{◌≡◌, ℕ, ◌≤◌, ◌<◌, true}
use Rattle.mh_base.specs.Numbers.{hex}
use Rattle.mhbuild_compose.specs.KeySets.{has_digits}
use Rattle.mhbuild_compose.proofs.keys.Keys.least_free.Given as goal

abbrev pub invariant-loop-key : goal.invariant-loop-key
invariant-loop-key l = (k : ℕ) → l.fn.from ≤ k → k < l.key → has_digits l.self (hex 16 k) ≡ true
