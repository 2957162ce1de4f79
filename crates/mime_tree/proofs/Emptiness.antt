-- Texts with and without bytes.
use Rattle.std.proofs.Common.{◌≡◌, ℕ, ◌<◌, true, false, List, [], ◌∷◌, length, refl, arith}
use Rattle.std.specs.Prelude.{◌==◌}
use Rattle.std.proofs.lemmas.Bool.Decides.{Decides-eqb}

pub some_bytes : (text : List ℕ) → length text == 0 ≡ false → 0 < length text
some_bytes [] e = cc
some_bytes (b ∷ bs) e = omega arith

pub no_bytes : (text : List ℕ) → length text == 0 ≡ true → text ≡ []
no_bytes [] e = refl
no_bytes (b ∷ bs) e = let none = (Decides-eqb (length (b ∷ bs)) 0).0 e in absurd (omega arith)
