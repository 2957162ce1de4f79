-- Numbers that a list has.
use Rattle.std.proofs.Common.{[], List, arith, length, true, ℕ, ◌+◌, ◌-◌, ◌∷◌, ◌≡◌}
use Rattle.mh_sequences.specs.Runs.{AreRuns}
use Rattle.msg_ranges.proofs.Rising.{lists}
use Rattle.held_messages.specs.Settle.{Settled}
use Rattle.opening_plans.specs.Existing.{numbers_settled}
use Rattle.sequence_commits.proofs.RunTests.{all_runs}

pub some_there : (ns : List ℕ) (k : ℕ) → lists ns k ≡ true → (length ns - 1) + 1 ≡ length ns
some_there [] k l = cc (l)
some_there (n ∷ ns) k l = omega arith

pub settled_runs : (run : ℕ) (s : Settled) → AreRuns (numbers_settled run s)
unfolding numbers_settled
settled_runs run s = all_runs _
