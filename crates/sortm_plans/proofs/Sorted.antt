-- Messages that are put in one after another stand in order.
use Rattle.std.proofs.Common.{◌≡◌, ◌<◌, ◌+◌, ℕ, zero, suc, Bool, true, false, List, [], ◌∷◌, length, get_or, map, refl, subst, ap, ◌∙◌, arith}
use Rattle.std.specs.Prelude.{IsPermutation, IsSortedBy, if◌then◌else◌}
use Rattle.std.specs.Cmp.{IsStrictWeakOrder, IsTotalOrder}
use Rattle.std.specs.Ordering.{is_lt, nat_cmp, ordering_then}
use Rattle.std.specs.declared.cmp.Ordering.{Ordering}
use Rattle.std.proofs.lemmas.Cmp.{nat_cmp_total, on_total, then_total}
use Rattle.std.proofs.lemmas.List.Sorted.{IsPermutation-cons, IsPermutation-middle, IsPermutation-refl, IsPermutation-trans, ranks_by}
use Rattle.message_order.specs.Order.{AreInOrder, comes_before}
use Rattle.sortm_plans.specs.Ordered.{in_order, put_in, sorted}

module _ {X : Type 0} (before : X → X → Bool) where
  swapped : (x y : X) (ys : List X) → IsPermutation (x ∷ y ∷ ys) (y ∷ x ∷ ys)
  swapped x y ys = IsPermutation-middle (x ∷ []) y ys

  put_permutes : (x : X) (ys : List X) → IsPermutation (x ∷ ys) (put_in before x ys)
  put_permutes x [] = IsPermutation-refl (x ∷ [])
  put_permutes x (y ∷ ys) = by (before x y) (put_permutes x ys)
    where
      by : (b : Bool) → IsPermutation (x ∷ ys) (put_in before x ys) → IsPermutation (x ∷ y ∷ ys) (if b then x ∷ y ∷ ys else y ∷ put_in before x ys)
      by true more = IsPermutation-refl (x ∷ y ∷ ys)
      by false more = IsPermutation-trans (x ∷ y ∷ ys) (y ∷ x ∷ ys) (y ∷ put_in before x ys) (swapped x y ys) (IsPermutation-cons y (x ∷ ys) (put_in before x ys) more)

  pub sorted_permutes : (xs : List X) → IsPermutation xs (sorted before xs)
  sorted_permutes [] = IsPermutation-refl []
  sorted_permutes (x ∷ xs) = IsPermutation-trans (x ∷ xs) (x ∷ sorted before xs) (put_in before x (sorted before xs)) (IsPermutation-cons x xs (sorted before xs) (sorted_permutes xs)) (put_permutes x (sorted before xs))

  -- the first of these doesn't come before it
  abbrev Follows : X → List X → Type 0
  Follows x [] = Unit {0}
  Follows x (y ∷ ys) = before y x ≡ false

  -- none comes before the one in front of it
  abbrev Rises : List X → Type 0
  Rises [] = Unit {0}
  Rises (x ∷ xs) = Follows x xs × Rises xs

  put_follows : (x y : X) (ys : List X) → before x y ≡ false → Follows y ys → Follows y (put_in before x ys)
  put_follows x y [] e f = e
  put_follows x y (z ∷ zs) e f = by (before x z)
    where
      by : (b : Bool) → Follows y (if b then x ∷ z ∷ zs else z ∷ put_in before x zs)
      by true = e
      by false = f

  module _ (one_way : (x y : X) → before x y ≡ true → before y x ≡ false) where
    put_rises : (x : X) (ys : List X) → Rises ys → Rises (put_in before x ys)
    put_rises x [] r = (tt, tt)
    put_rises x (y ∷ ys) r = by (before x y) refl (put_rises x ys r.1)
      where
        by : (b : Bool) → before x y ≡ b → Rises (put_in before x ys) → Rises (if b then x ∷ y ∷ ys else y ∷ put_in before x ys)
        by true e more = (one_way x y e, r)
        by false e more = (put_follows x y ys e r.0, more)

    sorted_rises : (xs : List X) → Rises (sorted before xs)
    sorted_rises [] = tt
    sorted_rises (x ∷ xs) = put_rises x (sorted before xs) (sorted_rises xs)

    rises_at : (xs : List X) (k : ℕ) (d : X) → Rises xs → k + 1 < length xs → before (get_or xs (k + 1) d) (get_or xs k d) ≡ false
    rises_at [] k d r h = absurd (omega (arith, h))
    rises_at (x ∷ []) k d r h = absurd (omega (arith, h))
    rises_at (x ∷ y ∷ ys) zero d r h = r.0
    rises_at (x ∷ y ∷ ys) (suc k) d r h =
        let next : suc (k + 1) ≡ suc k + 1 = omega arith in
        subst (λ m. before (get_or (x ∷ y ∷ ys) m d) (get_or (y ∷ ys) k d) ≡ false) next (rises_at (y ∷ ys) k d r.1 (omega (arith, h)))

    pub sorted_ascends : (xs : List X) → IsSortedBy before (sorted before xs)
    sorted_ascends xs = λ k d low h. rises_at (sorted before xs) k d (sorted_rises xs) h

module _ {K : Type 0} (cmp : K → K → Ordering) (total : IsTotalOrder cmp) where
  abbrev both : K × ℕ → K × ℕ → Ordering
  both x y = ordering_then (cmp x.0 y.0) (nat_cmp x.1 y.1)

  both_total : IsTotalOrder both
  both_total = then_total (on_total (λ (x : K × ℕ). x.0) total) (on_total (λ (x : K × ℕ). x.1) nat_cmp_total)

  order : IsStrictWeakOrder (comes_before cmp)
  order = ranks_by both_total (λ (x : K × ℕ). x)

  -- the messages stand in order
  pub are_in_order : (keyed : List (K × ℕ)) → AreInOrder cmp keyed (in_order cmp keyed)
  unfolding in_order
  are_in_order keyed = record {
    ordered = sorted (comes_before cmp) keyed;
    same = sorted_permutes (comes_before cmp) keyed;
    ascends = sorted_ascends (comes_before cmp) order.one_way keyed;
    are = refl;
  }

-- the order is that of other keys that stand to one another as these do
module _ {K J : Type 0} (f : K → J) (c : K → K → Ordering) (d : J → J → Ordering) (same : (x y : K) → c x y ≡ d (f x) (f y)) where
  abbrev on_key : K × ℕ → J × ℕ
  on_key x = (f x.0, x.1)

  before_same : (x y : K × ℕ) → comes_before c x y ≡ comes_before d (on_key x) (on_key y)
  before_same x y = ap (λ o. is_lt (ordering_then o (nat_cmp x.1 y.1))) (same x.0 y.0)

  put_same : (x : K × ℕ) (ys : List (K × ℕ)) → map on_key (put_in (comes_before c) x ys) ≡ put_in (comes_before d) (on_key x) (map on_key ys)
  put_same x [] = refl
  put_same x (y ∷ ys) = by (comes_before c x y) (put_same x ys) ∙ ap (λ b. if b then on_key x ∷ on_key y ∷ map on_key ys else on_key y ∷ put_in (comes_before d) (on_key x) (map on_key ys)) (before_same x y)
    where
      by : (b : Bool) → map on_key (put_in (comes_before c) x ys) ≡ put_in (comes_before d) (on_key x) (map on_key ys)
          → map on_key (if b then x ∷ y ∷ ys else y ∷ put_in (comes_before c) x ys) ≡ (if b then on_key x ∷ on_key y ∷ map on_key ys else on_key y ∷ put_in (comes_before d) (on_key x) (map on_key ys))
      by true more = refl
      by false more = ap (λ l. on_key y ∷ l) more

  sorted_same : (xs : List (K × ℕ)) → map on_key (sorted (comes_before c) xs) ≡ sorted (comes_before d) (map on_key xs)
  sorted_same [] = refl
  sorted_same (x ∷ xs) = put_same x (sorted (comes_before c) xs) ∙ ap (put_in (comes_before d) (on_key x)) (sorted_same xs)

  numbers_same : (xs : List (K × ℕ)) → map (λ x. x.1) xs ≡ map (λ x. x.1) (map on_key xs)
  numbers_same [] = refl
  numbers_same (x ∷ xs) = ap (λ l. x.1 ∷ l) (numbers_same xs)

  pub same_order : (keyed : List (K × ℕ)) → in_order c keyed ≡ in_order d (map on_key keyed)
  unfolding in_order
  same_order keyed = numbers_same (sorted (comes_before c) keyed) ∙ ap (map (λ x. x.1)) (sorted_same keyed)
