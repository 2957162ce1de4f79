-- The front of a list whose elements pass a test.
use Rattle.std.proofs.Common.{Bool, List, arith, false, refl, suc, true, ℕ, ◌∷◌, ◌≡◌}
use Rattle.std.specs.List.{prefix_len}

pub prefix_more : (p : ℕ → Bool) (b : ℕ) (rest : List ℕ) → p b ≡ true → prefix_len p (b ∷ rest) ≡ suc (prefix_len p rest)
prefix_more p b rest e = rw e (omega arith)

pub prefix_none : (p : ℕ → Bool) (b : ℕ) (rest : List ℕ) → p b ≡ false → prefix_len p (b ∷ rest) ≡ 0
prefix_none p b rest e = rw e refl
