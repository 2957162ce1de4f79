-- The greatest number of a listing.
use Rattle.std.proofs.Common.{◌≡◌, ◌<◌, ◌≤◌, ◌+◌, ◌∷◌, ◌||◌, ◌&&◌, [], ℕ, Bool, true, false, List, refl, arith, nat_le}
use Rattle.std.specs.Prelude.{max}
use Rattle.std.proofs.lemmas.Bool.Decides.{nat_tests}
use Rattle.mh_sequences.specs.Runs.{AreRunsFrom, has}
use Rattle.mh_sequences.specs.declared.run.Run.{Run}
use Rattle.message_moves.specs.Copying.{highest_of}
use Rattle.mh_base.proofs.NumberTests.{over_max, under_max}
use Rattle.refile_plans.specs.Refile.{greatest_of}

-- of two small numbers the greater is small
max_low : (a b n : ℕ) → a ≤ n → b ≤ n → max a b ≤ n
max_low a b n le ge = omega (arith, le, ge)

-- a listed number is not above the greatest
listed_low : (runs : List Run) (n : ℕ) → has runs n ≡ true → n ≤ highest_of (greatest_of runs)
listed_low [] n e = cc (e)
listed_low (r ∷ runs) n e = go (nat_le r.from n) (nat_le n r.to) refl e (λ f. listed_low runs n f)
  where
    go : (a b : Bool) → nat_le n r.to ≡ b → (a && b) || has runs n ≡ true → (has runs n ≡ true → n ≤ highest_of (greatest_of runs)) → n ≤ max r.to (highest_of (greatest_of runs))
    go true true f g more = under_max n r.to (highest_of (greatest_of runs)) (grind (arith, nat_tests, f))
    go true false f g more = over_max n r.to (highest_of (greatest_of runs)) (more g)
    go false b f g more = over_max n r.to (highest_of (greatest_of runs)) (more g)

-- a number above the greatest is not listed
pub unlisted : (runs : List Run) (n : ℕ) → highest_of (greatest_of runs) < n → has runs n ≡ false
unlisted runs n lt = go (has runs n) refl
  where
    go : (b : Bool) → has runs n ≡ b → b ≡ false
    go true e = absurd (let le = listed_low runs n e in omega (arith, le, lt))
    go false e = refl

-- the greatest is a message number or 0
pub greatest_low : (low : ℕ) (runs : List Run) → AreRunsFrom low runs → highest_of (greatest_of runs) ≤ 999999
greatest_low low [] valid = omega arith
greatest_low low (r ∷ runs) valid = max_low r.to (highest_of (greatest_of runs)) 999999 valid.2 (greatest_low (r.to + 2) runs valid.3)
