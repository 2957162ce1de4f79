-- Sets of bytes as lists.
use Rattle.std.proofs.Common.{◌≡◌, ℕ, zero, suc, ◌+◌, ◌<◌, ◌≤◌, ◌==◌, ◌&&◌, ◌||◌, nat_le, nat_lt, Bool, true, false, List, ◌∷◌, filter, if◌then◌else◌, refl, sym, ap, ◌∙◌, inl, inr, arith, eq-eqb}
use Rattle.std.specs.Char.{to_ascii_uppercase, is_ascii_lowercase}
use Rattle.std.specs.List.{list_any}
use Rattle.std.proofs.lemmas.Bool.{cases_eq, ne_eqb}
use Rattle.std.proofs.lemmas.Bool.Decides.{nat_tests}
use Rattle.pick_expr.specs.Atoms.{matches_byte}
use Rattle.pick_expr.specs.Places.{numbers_from, every_byte}

step_by : (p : ℕ → Bool) (b n : ℕ) (later : List ℕ) (found : Bool) → list_any (λ x. x == b) later ≡ found → ((n == b) && p n || found) ≡ list_any (λ x. x == b) (if p n then n ∷ later else later)
step_by p b n later found e = choose (p n)
  where
    choose : (t : Bool) → ((n == b) && t || found) ≡ list_any (λ x. x == b) (if t then n ∷ later else later)
    choose true = elim (n == b) as (λ v. (v && true || found) ≡ (v || list_any (λ x. x == b) later)) [ true ↦ refl | false ↦ sym e ]
    choose false = elim (n == b) as (λ v. (v && false || found) ≡ list_any (λ x. x == b) later) [ true ↦ sym e | false ↦ sym e ]

-- a set has none below its first number
none_below : (p : ℕ → Bool) (b n count : ℕ) → b < n → list_any (λ x. x == b) (filter p (numbers_from n count)) ≡ false
none_below p b n zero below = refl
none_below p b n (suc count) below =
    let miss : (n == b) ≡ false = ne_eqb n b (λ e. absurd (omega arith)) in
    sym (step_by p b n (filter p (numbers_from (suc n) count)) false (none_below p b (suc n) count (omega arith))) ∙ rw miss refl

-- what is in a set of numbers
in_set : (p : ℕ → Bool) (b n count : ℕ) → n ≤ b → b < n + count → list_any (λ x. x == b) (filter p (numbers_from n count)) ≡ p b
in_set p b n zero from to = absurd (omega arith)
in_set p b n (suc count) from to =
    elim (cases_eq n b) [
      | inl e ↦ (let hit : (n == b) ≡ true = eq-eqb n b e in
          sym (step_by p b n (filter p (numbers_from (suc n) count)) false (none_below p b (suc n) count (omega arith))) ∙ rw hit (alone (p n)) ∙ ap p e)
      | inr ne ↦ (let miss : (n == b) ≡ false = ne_eqb n b ne in
          sym (step_by p b n (filter p (numbers_from (suc n) count)) (p b) (in_set p b (suc n) count (omega arith) (omega arith))) ∙ rw miss refl)
    ]
  where
    alone : (t : Bool) → (t || false) ≡ t
    alone true = refl
    alone false = refl

pub in_every : (p : ℕ → Bool) (b : ℕ) → b < 256 → list_any (λ x. x == b) (filter p every_byte) ≡ p b
unfolding every_byte
in_every p b within = in_set p b 0 256 (omega arith) within

pub same_set : (p q : ℕ → Bool) → ((b : ℕ) → p b ≡ q b) → filter p every_byte ≡ filter q every_byte
same_set p q same = ap (λ f. filter f every_byte) (λ i. λ b. same b i)

-- a lower-case letter with its upper case
pub with_upper : (wanted b : ℕ) (other : Bool) → is_ascii_lowercase wanted ≡ true → (b == to_ascii_uppercase wanted || (b == wanted || other)) ≡ (matches_byte wanted b || other)
with_upper wanted b other lower = grind (arith, nat_tests)

-- a range with one byte more
pub range_more : (low byte b : ℕ) (other : Bool) → low ≤ byte → (b == byte || ((nat_le low b && nat_lt b byte) || other)) ≡ ((nat_le low b && nat_lt b (byte + 1)) || other)
range_more low byte b other from = grind (arith, nat_tests)

-- and the whole of it
pub range_all : (low high byte b : ℕ) → high + 1 ≤ byte → (low ≤ high + 1 → byte ≤ high + 1) → (high < low → byte ≡ low) → (nat_le low b && nat_lt b byte) ≡ (nat_le low b && nat_le b high)
range_all low high byte b over to none = grind (arith, nat_tests)
