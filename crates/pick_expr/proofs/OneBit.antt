-- One bit more.
use Rattle.std.proofs.Common.{◌≡◌, ℕ, zero, suc, ◌+◌, ◌*◌, ◌/◌, ◌&&◌, min, max, bit_and, ◌%◌, ◌^◌, ◌<◌, ◌==◌, ◌||◌, true, false, refl, ap, ◌∙◌, sym, inl, inr, arith, bit_or, eq-eqb}
use Rattle.std.specs.Int.{bit_at, trailing_zeros, w128}
use Rattle.std.proofs.lemmas.Bool.{cases_eq, cases_lt, ne_eqb}
use Rattle.std.proofs.lemmas.Nat.Bits.{bit_at-lt, bit_at-suc, bit_at_and, bit_at_or, bit_at_set_same, bit_at_set_other, bit_at-trailing_zeros, bit_at-zero}

pub placed : (n k : ℕ) → k < 128 → (i : ℕ) → (bit_at (bit_or n (1 * 2 ^ k % 2 ^ 128)) i == 1) ≡ (i == k || (bit_at n i == 1))
placed n k within i =
    elim (cases_eq i k) [
      | inl e ↦ (let hit : (i == k) ≡ true = eq-eqb i k e in
          let one : bit_at (bit_or n (1 * 2 ^ k % 2 ^ 128)) i ≡ 1 = ap (bit_at (bit_or n (1 * 2 ^ k % 2 ^ 128))) e ∙ bit_at_set_same w128 n k within in
          rw (one, hit) refl)
      | inr ne ↦ (let miss : (i == k) ≡ false = ne_eqb i k ne in
          let same : bit_at (bit_or n (1 * 2 ^ k % 2 ^ 128)) i ≡ bit_at n i = bit_at_set_other w128 n k within i ne in
          rw (same, miss) refl)
    ]

-- no bit is set below the lowest one
pub below_least : (n k : ℕ) → n < 2 ^ 128 → k ≡ trailing_zeros w128 n → (i : ℕ) → i < k → (bit_at n i == 1) ≡ false
below_least n k fits is_least i low =
    elim (cases_lt 0 n) [
      | inl some ↦ (let lowest = bit_at-trailing_zeros w128 n some fits in
          ap (λ z. z == 1) (lowest.2 i (omega (arith, is_least))))
      | inr none ↦ (let zero_is : n ≡ 0 = omega arith in
          ap (λ z. bit_at z i == 1) zero_is ∙ ap (λ z. z == 1) (bit_at-zero i))
    ]

-- each place less one
pub one_less : (n i : ℕ) → (bit_at (n / 2) i == 1) ≡ (bit_at n (i + 1) == 1)
one_less n i = ap (λ z. z == 1) (sym (bit_at-suc n i) ∙ ap (bit_at n) (omega arith))

-- the places that both have
pub in_both : (a b i : ℕ) → (bit_at (bit_and a b) i == 1) ≡ (bit_at a i == 1 && bit_at b i == 1)
in_both a b i = ap (λ z. z == 1) (bit_at_and a b i) ∙ least_one (bit_at a i) (bit_at b i) (bit_at-lt a i) (bit_at-lt b i)
  where
    least_one : (x y : ℕ) → x < 2 → y < 2 → (min x y == 1) ≡ (x == 1 && y == 1)
    least_one zero zero p q = refl
    least_one zero (suc zero) p q = refl
    least_one (suc zero) zero p q = refl
    least_one (suc zero) (suc zero) p q = refl
    least_one zero (suc (suc y)) p q = absurd (omega arith)
    least_one (suc zero) (suc (suc y)) p q = absurd (omega arith)
    least_one (suc (suc x)) y p q = absurd (omega arith)

-- the places of both
pub in_either : (a b i : ℕ) → (bit_at (bit_or a b) i == 1) ≡ (bit_at a i == 1 || bit_at b i == 1)
in_either a b i = ap (λ z. z == 1) (bit_at_or a b i) ∙ most_one (bit_at a i) (bit_at b i) (bit_at-lt a i) (bit_at-lt b i)
  where
    most_one : (x y : ℕ) → x < 2 → y < 2 → (max x y == 1) ≡ (x == 1 || y == 1)
    most_one zero zero p q = refl
    most_one zero (suc zero) p q = refl
    most_one (suc zero) zero p q = refl
    most_one (suc zero) (suc zero) p q = refl
    most_one zero (suc (suc y)) p q = absurd (omega arith)
    most_one (suc zero) (suc (suc y)) p q = absurd (omega arith)
    most_one (suc (suc x)) y p q = absurd (omega arith)
