-- Wanted paths as the keys of a set.
use Rattle.std.proofs.Common.{◌≡◌, ℕ, zero, suc, ◌+◌, ◌<◌, ◌≤◌, Bool, true, false, List, [], ◌∷◌, length, get_or, drop, refl, sym, ◌∙◌, ap, arith, add-one, drop-cons}
use Rattle.std.specs.Prelude.{bytes_eq, ◌||◌}
use Rattle.std.specs.List.{list_any}
use Rattle.std.specs.Ordering.{is_eq, match_ordering, nat_cmp}
use Rattle.std.specs.declared.cmp.Ordering.{Ordering}
use Rattle.std.specs.declared.cmp.Ordering.TheVariants.{Less, Equal, Greater}
use Rattle.std.specs.Cmp.Lexicographic.{slice_cmp}
use Rattle.std.specs.BTreeMap.{is_at}
use Rattle.std.specs.BTreeSet.{insert_key}
use Rattle.std.proofs.lemmas.Map.Text.{is_eq-slice_cmp}
use Rattle.std.proofs.lemmas.Slice.Eq.{bytes_eq-Decides}

same_test : (a b : Bool) → (a ≡ true → b ≡ true) → (b ≡ true → a ≡ true) → a ≡ b
same_test true true f g = refl
same_test true false f g = sym (f refl)
same_test false true f g = g refl
same_test false false f g = refl

same_turned : (a b : List ℕ) → bytes_eq a b ≡ bytes_eq b a
same_turned a b =
    same_test (bytes_eq a b) (bytes_eq b a)
    (λ h. (bytes_eq-Decides b a).1 (sym ((bytes_eq-Decides a b).0 h)))
    (λ h. (bytes_eq-Decides a b).1 (sym ((bytes_eq-Decides b a).0 h)))

or_swap : (a b c : Bool) → a || (b || c) ≡ b || (a || c)
or_swap true true c = refl
or_swap true false c = refl
or_swap false true c = refl
or_swap false false c = refl

or_group : (a b c : Bool) → (a || b) || c ≡ a || (b || c)
or_group true b c = refl
or_group false b c = refl

or_self : (a b : Bool) → a || b ≡ a || (a || b)
or_self true b = refl
or_self false b = refl

or_nothing : (a : Bool) → a || false ≡ a
or_nothing true = refl
or_nothing false = refl

-- keys that are the numbers of a path
module _ {K : Type 0} (of : K → List ℕ) where
  abbrev by_numbers : K → K → Ordering
  by_numbers x y = slice_cmp nat_cmp (of x) (of y)

  abbrev is_key : List ℕ → K → Bool
  is_key path = is_at (λ k. slice_cmp nat_cmp path (of k))

  abbrev pub has_key : List ℕ → List K → Bool
  has_key path ks = list_any (is_key path) ks

  same_key : (path : List ℕ) (k : K) → is_key path k ≡ bytes_eq (of k) path
  same_key path k = is_eq-slice_cmp path (of k) ∙ same_turned path (of k)

  inserted : (path : List ℕ) (ks : List K) (k : K) → has_key path (insert_key by_numbers ks k) ≡ bytes_eq (of k) path || has_key path ks
  inserted path [] k = ap (λ b. b || false) (same_key path k)
  inserted path (x ∷ xs) k = by (by_numbers k x) refl (inserted path xs k)
    where
      by : (o : Ordering) → by_numbers k x ≡ o → has_key path (insert_key by_numbers xs k) ≡ bytes_eq (of k) path || has_key path xs
          → has_key path (match_ordering o (k ∷ x ∷ xs) (x ∷ xs) (x ∷ insert_key by_numbers xs k)) ≡ bytes_eq (of k) path || has_key path (x ∷ xs)
      by Less e more = ap (λ b. b || has_key path (x ∷ xs)) (same_key path k)
      by Equal e more =
          let same : of k ≡ of x = (bytes_eq-Decides (of k) (of x)).0 (sym (is_eq-slice_cmp (of k) (of x)) ∙ ap is_eq e) in
          let one : is_key path x ≡ bytes_eq (of k) path = same_key path x ∙ ap (λ i. bytes_eq i path) (sym same) in
          ap (λ b. b || has_key path xs) one ∙ or_self (bytes_eq (of k) path) (has_key path xs) ∙ ap (λ b. bytes_eq (of k) path || (b || has_key path xs)) (sym one)
      by Greater e more = ap (λ b. is_key path x || b) more ∙ or_swap (is_key path x) (bytes_eq (of k) path) (has_key path xs)

  -- with the paths that are left, the keys are all
  pub record AreKeys (now : List K) (rest all : List (List ℕ)) : Type 0 where
    pub same : (path : List ℕ) → has_key path now || list_any (λ p. bytes_eq p path) rest ≡ list_any (λ p. bytes_eq p path) all

  pub keys_none : (now : List K) (all : List (List ℕ)) → now ≡ [] → AreKeys now all all
  keys_none now all e = record { same = λ path. ap (λ l. has_key path l || list_any (λ p. bytes_eq p path) all) e }

  pub keys_more : (now next : List K) (all : List (List ℕ)) (i : ℕ) (p : List ℕ) (k : K) → i < length all → p ≡ get_or all i p → of k ≡ p → next ≡ insert_key by_numbers now k → AreKeys now (drop i all) all → AreKeys next (drop (i + 1) all) all
  keys_more now next all i p k lt is same put keys =
      let at : drop i all ≡ p ∷ drop (suc i) all = drop-cons all i p lt ∙ ap (λ x. x ∷ drop (suc i) all) (sym is) in
      rw (add-one i) (record {
        same = λ path.
            ap (λ b. b || list_any (λ q. bytes_eq q path) (drop (suc i) all)) (ap (has_key path) put ∙ inserted path now k ∙ ap (λ z. bytes_eq z path || has_key path now) same)
            ∙ or_group (bytes_eq p path) (has_key path now) (list_any (λ q. bytes_eq q path) (drop (suc i) all))
            ∙ or_swap (bytes_eq p path) (has_key path now) (list_any (λ q. bytes_eq q path) (drop (suc i) all))
            ∙ ap (λ l. has_key path now || list_any (λ q. bytes_eq q path) l) (sym at)
            ∙ keys.same path;
      })

  past : (paths : List (List ℕ)) (i : ℕ) → length paths ≤ i → drop i paths ≡ []
  past [] zero le = refl
  past [] (suc i) le = refl
  past (x ∷ xs) zero le = absurd (omega arith)
  past (x ∷ xs) (suc i) le = past xs i (omega arith)

  pub keys_all : (now : List K) (all : List (List ℕ)) (i : ℕ) → length all ≤ i → AreKeys now (drop i all) all → (path : List ℕ) → has_key path now ≡ list_any (λ p. bytes_eq p path) all
  keys_all now all i le keys path = sym (ap (λ l. has_key path now || list_any (λ p. bytes_eq p path) l) (past all i le) ∙ or_nothing (has_key path now)) ∙ keys.same path
