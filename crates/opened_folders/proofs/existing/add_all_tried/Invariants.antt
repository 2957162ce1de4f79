use Rattle.std.proofs.Common.{◌≡◌, ◌≤◌, ◌||◌, ℕ, drop}
use Rattle.mh_sequences.specs.Runs.{has}
use Rattle.opening_plans.specs.Existing.{are_tried}
use Rattle.opened_folders.proofs.existing.add_all_tried.Given as goal

abbrev pub invariant-loop-at : goal.invariant-loop-at
invariant-loop-at l = (l.top ≤ 999999) × ((n : ℕ) → (are_tried (drop l.at l.pairs) (drop l.at l.ends) l.top n || has l.pile n) ≡ (are_tried l.pairs l.ends l.highest n || has l.fn.pile n))
