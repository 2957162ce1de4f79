-- There is one arrangement by an order that is total.
use Rattle.std.proofs.Common.{◌≡◌, ◌<◌, ◌+◌, ℕ, suc, Bool, true, false, List, [], ◌∷◌, length, get_or, map, refl, sym, subst, ap, ◌∙◌, arith}
use Rattle.std.specs.Prelude.{sum_by, if◌then◌else◌, IsSortedBy}
use Rattle.std.specs.Cmp.{IsStrictWeakOrder, IsTotalOrder}
use Rattle.std.specs.Ordering.{is_eq, is_lt, ordering_reverse}
use Rattle.std.specs.declared.cmp.Ordering.{Ordering}
use Rattle.std.specs.declared.cmp.Ordering.TheVariants.{Less, Equal, Greater}
use Rattle.std.specs.Ordering.{nat_cmp, ordering_then}
use Rattle.std.specs.FinMap.{nat_cmp-IsAntisymmetric}
use Rattle.std.proofs.lemmas.Cmp.{nat_cmp_total, on_total, then_total}
use Rattle.std.proofs.lemmas.List.Sums.{sum_by-cons}
use Rattle.message_order.specs.Order.{AreInOrder}
use Rattle.std.proofs.lemmas.List.Sorted.{sorted_far, sum_by-IsPermutation}

module _ {X : Type 0} (R : X → X → Ordering) (o : IsTotalOrder R) where
  abbrev tied : X → X → ℕ
  tied z y = if is_eq (R y z) then 1 else 0

  abbrev count : X → List X → ℕ
  count z xs = sum_by (tied z) xs

  -- none of these comes before it
  abbrev IsFirst : X → List X → Type 0
  IsFirst a [] = Unit {0}
  IsFirst a (y ∷ ys) = (is_lt (R y a) ≡ false) × IsFirst a ys

  abbrev pub Ascends : List X → Type 0
  Ascends [] = Unit {0}
  Ascends (a ∷ cs) = IsFirst a cs × Ascends cs

  tied_by : (r : Ordering) → is_eq r ≡ true → r ≡ Equal
  tied_by Less e = absurd (cc e)
  tied_by Equal e = refl
  tied_by Greater e = absurd (cc e)

  itself_by : (r : Ordering) → r ≡ ordering_reverse r → r ≡ Equal
  itself_by Less e = absurd (cc e)
  itself_by Equal e = refl
  itself_by Greater e = absurd (cc e)

  itself : (a : X) → R a a ≡ Equal
  itself a = itself_by (R a a) (o.antisymm a a)

  first_by : (t : Bool) (b z y : X) (ys : List X) → is_eq (R y z) ≡ t → is_lt (R y b) ≡ false → (0 < count z ys → is_lt (R z b) ≡ false) → 0 < count z (y ∷ ys) → is_lt (R z b) ≡ false
  first_by true b z y ys e f more h = ap is_lt (sym (o.congr y z b (tied_by (R y z) e))) ∙ f
  first_by false b z y ys e f more h =
      let parts : count z (y ∷ ys) ≡ tied z y + count z ys = sum_by-cons (tied z) y ys in
      let none : tied z y ≡ 0 = rw e refl in
      more (omega (arith, h, parts, none))

  -- one of these is tied with z
  first_tied : (b z : X) (ys : List X) → IsFirst b ys → 0 < count z ys → is_lt (R z b) ≡ false
  first_tied b z [] f h = absurd (omega (arith, h))
  first_tied b z (y ∷ ys) f h = first_by (is_eq (R y z)) b z y ys refl f.0 (first_tied b z ys f.1) h

  neither_by : (r : Ordering) → is_lt r ≡ false → is_lt (ordering_reverse r) ≡ false → r ≡ Equal
  neither_by Less e f = absurd (cc e)
  neither_by Equal e f = refl
  neither_by Greater e f = absurd (cc f)

  some_first : (a : X) (cs : List X) → 0 < count a (a ∷ cs)
  some_first a cs =
      let parts : count a (a ∷ cs) ≡ tied a a + count a cs = sum_by-cons (tied a) a cs in
      let one : tied a a ≡ 1 = rw (itself a) refl in
      omega (arith, parts, one)

  not_before_itself : (a : X) → is_lt (R a a) ≡ false
  not_before_itself a = ap is_lt (itself a)

  heads : (a b : X) (cs bs : List X) → Ascends (a ∷ cs) → Ascends (b ∷ bs) → ((z : X) → count z (a ∷ cs) ≡ count z (b ∷ bs)) → R a b ≡ Equal
  heads a b cs bs f g same =
      let of_b : is_lt (R a b) ≡ false = first_tied b a (b ∷ bs) (not_before_itself b, g.0) (rw (sym (same a)) (some_first a cs)) in
      let of_a : is_lt (R b a) ≡ false = first_tied a b (a ∷ cs) (not_before_itself a, f.0) (rw (same b) (some_first b bs)) in
      neither_by (R a b) of_b (ap is_lt (sym (o.antisymm b a)) ∙ of_a)

  tails : (a b : X) (cs bs : List X) → R a b ≡ Equal → (z : X) → count z (a ∷ cs) ≡ count z (b ∷ bs) → count z cs ≡ count z bs
  tails a b cs bs e z same =
      let left : count z (a ∷ cs) ≡ tied z a + count z cs = sum_by-cons (tied z) a cs in
      let right : count z (b ∷ bs) ≡ tied z b + count z bs = sum_by-cons (tied z) b bs in
      let one : tied z a ≡ tied z b = ap (λ r. if is_eq r then 1 else 0) (o.congr a b z e) in
      omega (arith, same, left, right, one)

  module _ (n : X → ℕ) (same_of : (x y : X) → R x y ≡ Equal → n x ≡ n y) where
    pub one_order : (cs bs : List X) → Ascends cs → Ascends bs → ((z : X) → count z cs ≡ count z bs) → map n cs ≡ map n bs
    one_order [] [] f g same = refl
    one_order [] (b ∷ bs) f g same = let some = some_first b bs in absurd (omega (arith, some, same b))
    one_order (a ∷ cs) [] f g same = let some = some_first a cs in absurd (omega (arith, some, same a))
    one_order (a ∷ cs) (b ∷ bs) f g same =
        let e = heads a b cs bs f g same in
        ap (λ x. x ∷ map n cs) (same_of a b e) ∙ ap (λ l. n b ∷ l) (one_order cs bs f.1 g.1 (λ z. tails a b cs bs e z (same z)))

  by_index : (a : X) (ys : List X) → ((j : ℕ) (d : X) → j < length ys → is_lt (R (get_or ys j d) a) ≡ false) → IsFirst a ys
  by_index a [] h = tt
  by_index a (y ∷ ys) h = (h 0 y (omega arith), by_index a ys (λ j d lt. h (suc j) d (omega (arith, lt))))

  strict : IsStrictWeakOrder (λ x y. is_lt (R x y))
  strict = record {
    one_way = λ x y e. greater_by (R x y) (R y x) (o.antisymm y x) e;
    chain = λ x y z e f. chained x y z (R x y) (R x z) refl refl e f;
  }
    where
      greater_by : (r s : Ordering) → s ≡ ordering_reverse r → is_lt r ≡ true → is_lt s ≡ false
      greater_by Less s q e = ap is_lt q
      greater_by Equal s q e = absurd (cc e)
      greater_by Greater s q e = absurd (cc e)

      no_less : (r : Ordering) → r ≡ Less → is_lt r ≡ false → ⊥
      no_less r q e = cc (sym e ∙ ap is_lt q)

      chained : (x y z : X) (r s : Ordering) → R x y ≡ r → R x z ≡ s → is_lt (R x y) ≡ false → is_lt (R y z) ≡ false → is_lt (R x z) ≡ false
      chained x y z r Equal p q e f = ap is_lt q
      chained x y z r Greater p q e f = ap is_lt q
      chained x y z Less Less p q e f = absurd (no_less (R x y) p e)
      chained x y z Equal Less p q e f = absurd (no_less (R y z) (sym (o.congr x y z p) ∙ q) f)
      chained x y z Greater Less p q e f = absurd (no_less (R y z) (o.trans y x z (o.antisymm y x ∙ ap ordering_reverse p) q) f)

  pub ascends_sorted : (xs : List X) → IsSortedBy (λ x y. is_lt (R x y)) xs → Ascends xs
  ascends_sorted [] up = tt
  ascends_sorted (x ∷ xs) up = (
    by_index x xs (λ j d h. sorted_far (λ x y. is_lt (R x y)) strict (x ∷ xs) up 0 (suc j) d (omega arith) (omega (arith, h))),
    ascends_sorted xs (λ k d low h.
        let next : suc k + 1 ≡ suc (k + 1) = omega arith in
        subst (λ m. is_lt (R (get_or (x ∷ xs) m d) (get_or xs k d)) ≡ false) next (up (suc k) d (omega arith) (omega (arith, h)))),
  )

module _ {K : Type 0} (cmp : K → K → Ordering) (total : IsTotalOrder cmp) where
  abbrev both : K × ℕ → K × ℕ → Ordering
  both x y = ordering_then (cmp x.0 y.0) (nat_cmp x.1 y.1)

  both_total : IsTotalOrder both
  both_total = then_total (on_total (λ (x : K × ℕ). x.0) total) (on_total (λ (x : K × ℕ). x.1) nat_cmp_total)

  second : (r s : Ordering) → ordering_then r s ≡ Equal → s ≡ Equal
  second Less s e = absurd (cc e)
  second Equal s e = e
  second Greater s e = absurd (cc e)

  same_number : (x y : K × ℕ) → both x y ≡ Equal → x.1 ≡ y.1
  same_number x y e = nat_cmp-IsAntisymmetric x.1 y.1 (second (cmp x.0 y.0) (nat_cmp x.1 y.1) e)

  -- two arrangements of one list have the same numbers
  pub one_arrangement : (keyed : List (K × ℕ)) (numbers others : List ℕ) → AreInOrder cmp keyed numbers → AreInOrder cmp keyed others → others ≡ numbers
  one_arrangement keyed numbers others f g =
      g.are
      ∙ one_order both both_total (λ x. x.1) same_number g.ordered f.ordered (ascends_sorted both both_total g.ordered g.ascends) (ascends_sorted both both_total f.ordered f.ascends)
      (λ z. sum_by-IsPermutation (tied both both_total z) keyed g.ordered g.same ∙ sym (sum_by-IsPermutation (tied both both_total z) keyed f.ordered f.same))
      ∙ sym f.are
