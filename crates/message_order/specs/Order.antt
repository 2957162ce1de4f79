-- Messages in order.
use Rattle.std.specs.Prelude.{◌≡◌, ℕ, Bool, List, map, IsPermutation, IsSortedBy}
use Rattle.std.specs.declared.cmp.Ordering.{Ordering}
use Rattle.std.specs.Ordering.{is_lt, nat_cmp, ordering_then}

-- by key, and by number where the keys are the same
abbrev pub comes_before : {K : Type 0} → (K → K → Ordering) → K × ℕ → K × ℕ → Bool
comes_before cmp x y = is_lt (ordering_then (cmp x.0 y.0) (nat_cmp x.1 y.1))

-- these are the numbers of messages with keys, where none stands behind one that it comes before
pub record AreInOrder {K : Type 0} (cmp : K → K → Ordering) (keyed : List (K × ℕ)) (numbers : List ℕ) : Type 0 where
  pub ordered : List (K × ℕ)
  pub same : IsPermutation keyed ordered
  pub ascends : IsSortedBy (comes_before cmp) ordered
  pub are : numbers ≡ map (λ x. x.1) ordered
