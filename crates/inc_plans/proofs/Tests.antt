-- Tests of numbers as what they decide.
use Rattle.std.proofs.Common.{◌≡◌, ◌<◌, ◌≤◌, ◌==◌, ℕ, Bool, true, false, nat_lt, refl, arith}
use Rattle.std.proofs.lemmas.Bool.Decides.{Decides-eqb, Decides-ltb}

pub apart : (a b : ℕ) → (a ≡ b → ⊥) → (a == b) ≡ false
apart a b f = go (a == b) (Decides-eqb a b).0
  where
    go : (v : Bool) → (v ≡ true → a ≡ b) → v ≡ false
    go true g = absurd (f (g refl))
    go false g = refl

pub alike : (a b : ℕ) → a ≡ b → (a == b) ≡ true
alike a b e = (Decides-eqb a b).1 e

pub below : (a b : ℕ) → a < b → nat_lt a b ≡ true
below a b l = (Decides-ltb a b).1 l

pub not_below : (a b : ℕ) → b ≤ a → nat_lt a b ≡ false
not_below a b l = go (nat_lt a b) (Decides-ltb a b).0
  where
    go : (v : Bool) → (v ≡ true → a < b) → v ≡ false
    go true g = absurd (let k = g refl in omega (arith, k, l))
    go false g = refl
