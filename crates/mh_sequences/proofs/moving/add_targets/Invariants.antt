use Rattle.std.proofs.Common.{◌≡◌, ℕ, take}
use Rattle.std.specs.Prelude.{◌||◌, ◌==◌}
use Rattle.std.specs.List.{list_any}
use Rattle.mh_sequences.specs.Runs.{has}
use Rattle.mh_sequences.proofs.moving.add_targets.Given as goal

abbrev pub invariant-loop-pair : goal.invariant-loop-pair
invariant-loop-pair l = (n : ℕ) → has l.pile n ≡ (list_any (λ p. n == p.to) (take l.pair-index l.pair-items) || has l.initial.pile n)
