-- Names found by halving.
use Rattle.std.proofs.Common.{◌≡◌, ℕ, zero, suc, ◌+◌, ◌<◌, ◌≤◌, Bool, true, false, List, [], ◌∷◌, ◌++◌, length, map, drop, get_or, refl, sym, ◌∙◌, ap, subst, arith, ⊎_elim}
use Rattle.std.specs.Prelude.{bytes_eq, if◌then◌else◌}
use Rattle.std.specs.List.{prefix_len}
use Rattle.std.specs.List.Sorted.{IsPartitionPoint, IsPartitionedBy}
use Rattle.std.specs.Ordering.{is_lt, is_eq, ordering_reverse}
use Rattle.std.specs.declared.cmp.Ordering.{Ordering}
use Rattle.std.specs.declared.cmp.Ordering.TheVariants.{Less, Equal, Greater}
use Rattle.std.proofs.lemmas.Bool.{cases_Bool}
use Rattle.std.proofs.lemmas.List.Sums.{prefix_len_is}
use Rattle.std.proofs.lemmas.Cmp.{nat_list_cmp_total}
use Rattle.std.proofs.lemmas.Map.Text.{is_eq-slice_cmp}
use Rattle.mh_sequences.specs.declared.user.User.{User}
use Rattle.mh_sequences.specs.Sequences.{Sequence, told, Precedes, AreSequences, runs_of, public_of, order}
use Rattle.mh_sequences.specs.Placing.{alone, by_order, placed, stands_before, IsAt, IsBefore}
use Rattle.mh_sequences.proofs.NamePlaces.{IsPassed, same_by, same_is, same_self, found_here, stopped_here, all_told, item_at, value_at, told_length}

less_is : (o : Ordering) → is_lt o ≡ true → o ≡ Less
less_is Less e = refl
less_is Equal e = cc
less_is Greater e = cc

precedes_at : (name : List ℕ) (us : List User) → Precedes name (map told us) → (j : ℕ) (d : User) → j < length us → order name (get_or us j d).name ≡ Less
precedes_at name [] h j d lt = absurd (omega arith)
precedes_at name (u ∷ us) h zero d lt = h.0
precedes_at name (u ∷ us) h (suc j) d lt = precedes_at name us h.1 j d (omega arith)

-- no sequence before a name stands behind one that isn't
pub names_part : (name : List ℕ) (us : List User) → AreSequences (map told us) → IsPartitionedBy (λ u. stands_before name (told u)) us
names_part name [] h i j d le lt e = absurd (omega arith)
names_part name (u ∷ us) h zero zero d le lt e = e
names_part name (u ∷ us) h zero (suc j) d le lt e =
    ap is_lt (nat_list_cmp_total.trans u.name (get_or us j d).name name (precedes_at u.name us h.1 j d (omega arith)) (less_is (order (get_or us j d).name name) e))
names_part name (u ∷ us) h (suc i) zero d le lt e = absurd (omega arith)
names_part name (u ∷ us) h (suc i) (suc j) d le lt e = names_part name us h.2 i j d (omega arith) (omega arith) e

told_prefix : (name : List ℕ) (us : List User) → prefix_len (λ u. stands_before name (told u)) us ≡ prefix_len (stands_before name) (map told us)
told_prefix name [] = refl
told_prefix name (u ∷ us) = ap (λ k. if stands_before name (told u) then 1 + k else 0) (told_prefix name us)

pub point_of_names : (name : List ℕ) (us : List User) (i : ℕ) → i ≤ length us → IsPartitionPoint (λ u. stands_before name (told u) ≡ true) (λ u. stands_before name (told u) ≡ false) us i → i ≡ prefix_len (stands_before name) (map told us)
point_of_names name us i le point = by us i le point ∙ told_prefix name us
  where
    by : (us : List User) (i : ℕ) → i ≤ length us → IsPartitionPoint (λ u. stands_before name (told u) ≡ true) (λ u. stands_before name (told u) ≡ false) us i → i ≡ prefix_len (λ u. stands_before name (told u)) us
    by [] i le point = omega arith
    by (u ∷ us) i le point = sym (prefix_len_is (λ v. stands_before name (told v)) (u ∷ us) i u le (λ k lt. point.0 k u (omega arith) lt) (λ lt. point.1 i u (omega arith) lt))

turned : (a b : List ℕ) → order a b ≡ Less → order b a ≡ Greater
turned a b e = nat_list_cmp_total.antisymm b a ∙ ap ordering_reverse e

pass : (name : List ℕ) (s : Sequence) (ss : List Sequence) (i : ℕ) → order name s.name ≡ Greater → IsPassed name ss i → IsPassed name (s ∷ ss) (suc i)
pass name s ss i g is = record {
  put = λ p r. ap (λ o. by_order o (alone name p r ++ (s ∷ ss)) (alone name p r ++ ss) (s ∷ placed name p r ss)) g ∙ ap (λ l. s ∷ l) (is.put p r);
  runs = ap (λ b. if b then s.runs else runs_of ss name) (same_by name s.name Greater g) ∙ is.runs;
  public = ap (λ b. if b then s.public else public_of ss name) (same_by name s.name Greater g) ∙ is.public;
}

-- the sequences before a name have others
pub are_passed : (name : List ℕ) (ss : List Sequence) → IsPassed name ss (prefix_len (stands_before name) ss)
are_passed name [] = record { put = λ p r. refl; runs = refl; public = refl }
are_passed name (s ∷ ss) = by (are_passed name ss) (stands_before name s) refl
  where
    on : (i : ℕ) → suc i ≡ 1 + i
    on i = omega arith

    by : IsPassed name ss (prefix_len (stands_before name) ss) → (b : Bool) → stands_before name s ≡ b → IsPassed name (s ∷ ss) (if b then 1 + prefix_len (stands_before name) ss else 0)
    by others true e = subst (λ k. IsPassed name (s ∷ ss) k) (on (prefix_len (stands_before name) ss)) (pass name s ss (prefix_len (stands_before name) ss) (turned s.name name (less_is (order s.name name) e)) others)
    by others false e = record { put = λ p r. refl; runs = refl; public = refl }

-- the first that doesn't stand before the name
stops : (name : List ℕ) (ss : List Sequence) (i : ℕ) (s : Sequence) (rest : List Sequence) → i ≡ prefix_len (stands_before name) ss → drop i ss ≡ s ∷ rest → stands_before name s ≡ false
stops name [] zero s rest e at = cc
stops name [] (suc i) s rest e at = cc
stops name (x ∷ xs) zero s rest e at = ⊎_elim
    (λ t. let k : 0 ≡ 1 + prefix_len (stands_before name) xs = rw t at e in absurd (omega arith))
    (λ f. let same : x ≡ s = cc in ap (stands_before name) (sym same) ∙ f)
    (cases_Bool (stands_before name x))
stops name (x ∷ xs) (suc i) s rest e at = ⊎_elim
    (λ t. let k : suc i ≡ 1 + prefix_len (stands_before name) xs = rw t at e in let less : i ≡ prefix_len (stands_before name) xs = omega arith in stops name xs i s rest less at)
    (λ f. let k : suc i ≡ 0 = rw f at e in absurd (omega arith))
    (cases_Bool (stands_before name x))

equal_is : (o : Ordering) → is_eq o ≡ true → o ≡ Equal
equal_is Less e = cc
equal_is Equal e = refl
equal_is Greater e = cc

greater_is : (o : Ordering) → is_lt o ≡ false → is_eq o ≡ false → ordering_reverse o ≡ Less
greater_is Less e f = cc
greater_is Equal e f = cc
greater_is Greater e f = refl

module _ (name : List ℕ) (us : List User) (i : ℕ) (is : i ≡ prefix_len (stands_before name) (map told us)) where
  passed : IsPassed name (map told us) i
  passed = subst (λ k. IsPassed name (map told us) k) (sym is) (are_passed name (map told us))

  pub at_name : (u : User) → i < length us → u ≡ get_or us i u → bytes_eq u.name name ≡ true → IsAt name (map told us) i
  at_name u lt e t =
      let count = told_length us in
      let same : u.name ≡ name = same_is u.name name t in
      let equal : order name u.name ≡ Equal = equal_is (order name u.name) (is_eq-slice_cmp name u.name ∙ ap (bytes_eq name) same ∙ same_self name) in
      found_here name (map told us) i (told u) (item_at us i u lt e) passed (omega arith) (value_at us i u lt e) equal

  pub before_name : AreSequences (map told us) → (u : User) → i < length us → u ≡ get_or us i u → bytes_eq u.name name ≡ false → IsBefore name (map told us) i
  before_name h u lt e f =
      let count = told_length us in
      let at = item_at us i u lt e in
      let later : stands_before name (told u) ≡ false = stops name (map told us) i (told u) (drop (suc i) (map told us)) is at in
      let less : order name u.name ≡ Less = nat_list_cmp_total.antisymm name u.name ∙ greater_is (order u.name name) later (is_eq-slice_cmp u.name name ∙ f) in
      stopped_here name (map told us) i (told u) at passed h (omega arith) less

  pub behind_all : i ≡ length us → IsBefore name (map told us) i
  behind_all e = all_told name us i e passed
