-- Runs in order.
use Rattle.std.proofs.Common.{◌≡◌, ℕ, zero, suc, ◌+◌, ◌<◌, ◌≤◌, Bool, true, false, Some, None, List, [], ◌∷◌, length, get_or, refl, sym, ap, arith, ltb}
use Rattle.std.specs.Prelude.{slice_get}
use Rattle.std.proofs.lemmas.Bool.{ltb-true, ltb-false}
use Rattle.std.specs.List.{prefix_len}
use Rattle.std.specs.List.Sorted.{IsPartitionPoint, IsNonDecreasingBy}
use Rattle.std.proofs.lemmas.List.Sums.{prefix_len_is}
use Rattle.mh_sequences.specs.declared.run.Run.{Run}
use Rattle.mh_sequences.specs.Runs.{AreRuns, AreRunsFrom}

ends_above : (low : ℕ) (rs : List Run) → AreRunsFrom low rs → (k : ℕ) (d : Run) → k < length rs → low ≤ (get_or rs k d).to
ends_above low [] h k d lt = absurd (omega arith)
ends_above low (r ∷ rs) h zero d lt = omega arith
ends_above low (r ∷ rs) h (suc k) d lt = let rest = ends_above (r.to + 2) rs h.3 k d (omega arith) in omega arith

ends_rise : (low : ℕ) (rs : List Run) → AreRunsFrom low rs → IsNonDecreasingBy (λ r. r.to) rs
ends_rise low [] h i j d le lt = absurd (omega arith)
ends_rise low (r ∷ rs) h zero zero d le lt = omega arith
ends_rise low (r ∷ rs) h zero (suc j) d le lt = let rest = ends_above (r.to + 2) rs h.3 j d (omega arith) in omega arith
ends_rise low (r ∷ rs) h (suc i) zero d le lt = absurd (omega arith)
ends_rise low (r ∷ rs) h (suc i) (suc j) d le lt = ends_rise (r.to + 2) rs h.3 i j d (omega arith) (omega arith)

pub runs_rise : (rs : List Run) → AreRuns rs → IsNonDecreasingBy (λ r. r.to) rs
runs_rise rs h = ends_rise 1 rs h

-- a partition point is the length of the longest prefix that passes
pub point_is_prefix : {X : Type 0} (p : X → Bool) (xs : List X) (i : ℕ) (d : X) → i ≤ length xs → IsPartitionPoint (λ y. p y ≡ true) (λ y. p y ≡ false) xs i → i ≡ prefix_len p xs
point_is_prefix p xs i d le point = sym (prefix_len_is p xs i d le (λ k lt. point.0 k d (omega arith) lt) (λ lt. point.1 i d (omega arith) lt))

found : (xs : List Run) (k : ℕ) (q : Run) → k < length xs → q ≡ get_or xs k q → slice_get xs k ≡ Some q
found [] k q lt e = absurd (omega arith)
found (x ∷ xs) zero q lt e = ap Some (sym e)
found (x ∷ xs) (suc k) q lt e = found xs k q (omega arith) e

missed : (xs : List Run) (k : ℕ) → length xs ≤ k → slice_get xs k ≡ None
missed [] k le = refl
missed (x ∷ xs) zero le = absurd (omega arith)
missed (x ∷ xs) (suc k) le = missed xs k (omega arith)

-- what `get` says
pub looked_up : (xs : List Run) (k : ℕ) (q : Run) → true ≡ ltb k (length xs) → q ≡ get_or xs k q → slice_get xs k ≡ Some q
looked_up xs k q t e = let lt = ltb-true k (length xs) (sym t) in found xs k q (omega arith) e

pub not_found : (xs : List Run) (k : ℕ) → false ≡ ltb k (length xs) → slice_get xs k ≡ None
not_found xs k t = let ge = ltb-false k (length xs) (sym t) in missed xs k (omega arith)
