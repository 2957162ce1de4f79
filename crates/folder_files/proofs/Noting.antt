-- Lines that are added to a message.
use Rattle.std.proofs.Common.{[], List, arith, bytes_eq, false, length, length-append, refl, ℕ, ◌++◌, ◌-◌, ◌∷◌, ◌≡◌}

pub last_place : (rest : List ℕ) (x : ℕ) → length (rest ++ x ∷ []) - 1 ≡ length rest
last_place rest x = let n = length-append rest (x ∷ []) in omega (arith, n)

pub some : (rest : List ℕ) (x : ℕ) → bytes_eq (rest ++ x ∷ []) [] ≡ false
some [] x = refl
some (y ∷ rest) x = refl
