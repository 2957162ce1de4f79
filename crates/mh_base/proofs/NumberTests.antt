-- What tests of numbers say.
use Rattle.std.proofs.Common.{Bool, List, [], ◌∷◌, arith, eqb, false, max, nat_le, refl, subst, sym, true, ℕ, ◌<◌, ◌==◌, ◌||◌, ◌∙◌, ◌≡◌, ◌≤◌}
use Rattle.std.proofs.lemmas.Bool.{le-leb, leb-true}
use Rattle.std.proofs.lemmas.Bool.Decides.{nat_tests}
use Rattle.std.specs.List.{list_any}
use Rattle.mh_base.specs.Numbers.{IsMsgNum}

-- the greater of two numbers is one of them
pub greater_is : (C : ℕ → Type 0) (a b : ℕ) → C a → C b → C (max a b)
greater_is C a b x y = go (nat_le a b) (at (nat_le a b) refl)
  where
    at : (v : Bool) → nat_le a b ≡ v → (v ≡ true → max a b ≡ b) × (v ≡ false → max a b ≡ a)
    at v e = ((λ f. let l : a ≤ b = grind (arith, nat_tests, e ∙ f) in omega (arith, l)), (λ f. let l : b ≤ a = grind (arith, nat_tests, e ∙ f) in omega (arith, l)))

    go : (v : Bool) → (v ≡ true → max a b ≡ b) × (v ≡ false → max a b ≡ a) → C (max a b)
    go true f = subst C (sym (f.0 refl)) y
    go false f = subst C (sym (f.1 refl)) x

pub equal_test : (a b : ℕ) → a ≡ b → eqb a b ≡ true
equal_test a b e = grind (arith, nat_tests)

pub less_test : (a b : ℕ) → a < b → eqb a b ≡ false
less_test a b lt = grind (arith, nat_tests)

pub at_most : (a b : ℕ) → a ≤ b → nat_le a b ≡ true
at_most a b l = le-leb a b l

pub above : (a b : ℕ) → b < a → nat_le a b ≡ false
above a b l = go (nat_le a b) (leb-true a b)
  where
    go : (v : Bool) → (v ≡ true → a ≤ b) → v ≡ false
    go true g = absurd (let k = g refl in omega (arith, k, l))
    go false g = refl

-- one number more: what was added, or is still to be
abbrev pub is_one : ℕ → List ℕ → Bool
is_one n numbers = list_any (λ m. m == n) numbers

-- no number of a listing is above its top
pub under_max : (k a b : ℕ) → k ≤ a → k ≤ max a b
under_max k a b le = omega (arith, le)

pub over_max : (k a b : ℕ) → k ≤ b → k ≤ max a b
over_max k a b le = omega (arith, le)

pub or_right : (a b : Bool) → b ≡ true → a || b ≡ true
or_right true b e = refl
or_right false b e = e

-- message numbers, all of them
abbrev pub AreNumbers : List ℕ → Type 0
AreNumbers [] = Unit {0}
AreNumbers (n ∷ ns) = IsMsgNum n × AreNumbers ns
