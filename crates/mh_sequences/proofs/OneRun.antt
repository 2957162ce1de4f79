-- A list of numbers that begins as one run.
use Rattle.std.proofs.Common.{[], List, None, arith, length, slice_get, subst, suc, ℕ, ◌&&◌, ◌-◌, ◌==◌, ◌∷◌, ◌≡◌}
use Rattle.std.proofs.lemmas.Bool.Decides.{nat_tests}
use Rattle.std.specs.Prelude.{nat_le}
use Rattle.mh_sequences.specs.Runs.{inside}
use Rattle.mh_sequences.specs.declared.run.Run.{Run}

pub inside_one : (k n : ℕ) → inside (record { from = k; to = k }) n ≡ (k == n)
inside_one k n = let e : (nat_le k n && nat_le n k) ≡ (k == n) = grind (arith, nat_tests) in e

pub last_there : (r : Run) (runs : List Run) → slice_get (r ∷ runs) (length (r ∷ runs) - 1) ≡ None → ⊥
last_there r [] e = cc (e)
last_there r (t ∷ runs) e =
    let index : suc (suc (length runs)) - 1 ≡ suc (suc (length runs) - 1) = omega arith in
    last_there t runs (subst (λ n. slice_get (r ∷ (t ∷ runs)) n ≡ None) index e)
