use Rattle.std.proofs.Common.{◌≡◌, ℕ, map}
use Rattle.std.specs.List.{list_any}
use Rattle.mh_sequences.specs.Lists.{run_has, run_in}
use Rattle.mh_sequences.specs.Runs.{has}
use Rattle.mh_sequences.proofs.lists.read_list.Given as goal

abbrev pub invariant-loop-item : goal.invariant-loop-item
invariant-loop-item l = (n : ℕ) → has l.numbers n ≡ list_any (λ item. run_has (run_in item) n) (map (λ i. i.now) l.yielded)
