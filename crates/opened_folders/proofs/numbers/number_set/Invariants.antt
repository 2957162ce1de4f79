use Rattle.std.proofs.Common.{◌≡◌, ◌||◌, ℕ, drop}
use Rattle.mh_sequences.specs.Runs.{has}
use Rattle.mh_base.proofs.NumberTests.{is_one}
use Rattle.opened_folders.proofs.numbers.number_set.Given as goal

abbrev pub invariant-loop-number : goal.invariant-loop-number
invariant-loop-number l = (n : ℕ) → has l.pile n || is_one n (drop l.number-index l.numbers) ≡ is_one n l.numbers
