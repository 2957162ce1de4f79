-- Ascending numbers.
use Rattle.std.proofs.Common.{◌≡◌, ◌⊎◌, inl, inr, ℕ, zero, suc, ◌+◌, ◌-◌, ◌<◌, ◌≤◌, Bool, true, false, Some, None, List, [], ◌∷◌, ◌++◌, refl, sym, ◌∙◌, ap, subst, arith, ⊎_elim}
use Rattle.std.specs.Prelude.{◌&&◌, ◌||◌, ◌==◌, nat_le, nat_lt, filter, find}
use Rattle.std.specs.List.{list_any, range_with_len}
use Rattle.std.proofs.lemmas.Bool.{cases_lt, cases_Bool, cases_order, or_from, or_left, and_right, and_from, eqb-true, ne_eqb, eq-eqb, both_ways}
use Rattle.std.proofs.lemmas.Bool.Decides.{Decides-eqb, nat_tests}
use Rattle.std.proofs.lemmas.List.Folds.{list_any-append}
use Rattle.mh_sequences.specs.declared.run.Run.{Run}
use Rattle.mh_sequences.specs.Runs.{AreRuns, AreRunsFrom, inside, has, numbers_of}
use Rattle.mh_sequences.proofs.Bools.{choose}

-- the list has the number
abbrev pub lists : List ℕ → ℕ → Bool
lists xs n = list_any (λ x. x == n) xs

-- the numbers ascend, from this one on
abbrev pub Rise : ℕ → List ℕ → Type 0
Rise low [] = Unit {0}
Rise low (x ∷ xs) = (low ≤ x) × Rise (x + 1) xs

pub rise_weaker : (low high : ℕ) (xs : List ℕ) → low ≤ high → Rise high xs → Rise low xs
rise_weaker low high [] le h = tt
rise_weaker low high (x ∷ xs) le h = (omega arith, h.1)

rise_range : (low a k : ℕ) (xs : List ℕ) → low ≤ a → Rise (a + k) xs → Rise low (range_with_len a k ++ xs)
rise_range low a zero xs le h = rise_weaker low (a + 0) xs (omega arith) h
rise_range low a (suc k) xs le h =
    let more : Rise (a + 1 + k) xs = rise_weaker (a + 1 + k) (a + suc k) xs (omega arith) h in
    (le, rise_range (a + 1) (a + 1) k xs (omega arith) more)

pub rise_runs : (low : ℕ) (rs : List Run) → AreRunsFrom low rs → Rise low (numbers_of rs)
rise_runs low [] h = tt
rise_runs low (r ∷ rs) h =
    rise_range low r.from (r.to + 1 - r.from) (numbers_of rs) h.0
    (rise_weaker (r.from + (r.to + 1 - r.from)) (r.to + 2) (numbers_of rs) (omega arith) (rise_runs (r.to + 2) rs h.3))

pub rise_filter : (p : ℕ → Bool) (low : ℕ) (xs : List ℕ) → Rise low xs → Rise low (filter p xs)
rise_filter p low [] h = tt
rise_filter p low (x ∷ xs) h =
    choose (λ l. Rise low l) (p x) (x ∷ filter p xs) (filter p xs)
    (λ e. (h.0, rise_filter p (x + 1) xs h.1))
    (λ e. rise_weaker low (x + 1) (filter p xs) (omega arith) (rise_filter p (x + 1) xs h.1))

pub none_below : (low : ℕ) (xs : List ℕ) → Rise low xs → (n : ℕ) → n < low → lists xs n ≡ false
none_below low [] h n lt = refl
none_below low (x ∷ xs) h n lt = or_from (x == n) (lists xs n) (ne_eqb x n (λ e. omega arith)) (none_below (x + 1) xs h.1 n (omega arith))

in_range : (a k n : ℕ) → lists (range_with_len a k) n ≡ nat_le a n && nat_lt n (a + k)
in_range a zero n = let e : nat_le a n && nat_lt n (a + 0) ≡ false = grind (arith, nat_tests) in sym e
in_range a (suc k) n =
    ap (λ b. (a == n) || b) (in_range (a + 1) k n)
    ∙ (let e : (a == n) || (nat_le (a + 1) n && nat_lt n (a + 1 + k)) ≡ nat_le a n && nat_lt n (a + suc k) = grind (arith, nat_tests) in e)

in_run : (r : Run) (n : ℕ) → lists (range_with_len r.from (r.to + 1 - r.from)) n ≡ inside r n
in_run r n =
    in_range r.from (r.to + 1 - r.from) n
    ∙ (let e : nat_le r.from n && nat_lt n (r.from + (r.to + 1 - r.from)) ≡ nat_le r.from n && nat_le n r.to = grind (arith, nat_tests) in e)

-- the numbers of runs are those that lie in them
pub lists_numbers : (rs : List Run) (n : ℕ) → lists (numbers_of rs) n ≡ has rs n
lists_numbers [] n = refl
lists_numbers (r ∷ rs) n =
    list_any-append (λ x. x == n) (range_with_len r.from (r.to + 1 - r.from)) (numbers_of rs)
    ∙ (λ i. in_run r n i || lists_numbers rs n i)

same_head : (x y : ℕ) (xs ys : List ℕ) → Rise (y + 1) ys → ((n : ℕ) → lists (x ∷ xs) n ≡ lists (y ∷ ys) n) → x < y → ⊥
same_head x y xs ys k same lt =
    both_ways (lists (y ∷ ys) x) (none_below y (y ∷ ys) (omega arith, k) x lt) (sym (same x) ∙ or_left (x == x) (lists xs x) (eq-eqb x x refl))

same_tail : (x : ℕ) (xs ys : List ℕ) → Rise (x + 1) xs → Rise (x + 1) ys → ((n : ℕ) → lists (x ∷ xs) n ≡ lists (x ∷ ys) n) → (n : ℕ) → lists xs n ≡ lists ys n
same_tail x xs ys h k same n = ⊎_elim
    (λ lt. none_below (x + 1) xs h n lt ∙ sym (none_below (x + 1) ys k n lt))
    (λ le. let other : (x == n) ≡ false = ne_eqb x n (λ e. omega arith) in
    sym (ap (λ b. b || lists xs n) other) ∙ same n ∙ ap (λ b. b || lists ys n) other)
    (cases_lt n (x + 1))

-- ascending lists of the same numbers are the same
pub same_list : (low : ℕ) (xs ys : List ℕ) → Rise low xs → Rise low ys → ((n : ℕ) → lists xs n ≡ lists ys n) → xs ≡ ys
same_list low [] [] h k same = refl
same_list low [] (y ∷ ys) h k same = absurd (both_ways false refl (same y ∙ or_left (y == y) (lists ys y) (eq-eqb y y refl)))
same_list low (x ∷ xs) [] h k same = absurd (both_ways false refl (sym (same x) ∙ or_left (x == x) (lists xs x) (eq-eqb x x refl)))
same_list low (x ∷ xs) (y ∷ ys) h k same = ⊎_elim
    (λ e. let behind : Rise (x + 1) ys = subst (λ z. Rise (z + 1) ys) (sym e) k.1 in
    (λ i. e i ∷ same_list (x + 1) xs ys h.1 behind (same_tail x xs ys h.1 behind (λ n. same n ∙ ap (λ z. lists (z ∷ ys) n) (sym e))) i))
    (λ o. ⊎_elim
    (λ lt. absurd (same_head x y xs ys k.1 same lt))
    (λ lt. absurd (same_head y x ys xs h.1 (λ n. sym (same n)) lt))
    o)
    (cases_order x y)

pub lists_filter : (p : ℕ → Bool) (xs : List ℕ) (n : ℕ) → lists (filter p xs) n ≡ lists xs n && p n
lists_filter p [] n = refl
lists_filter p (x ∷ xs) n = ⊎_elim
    (λ t. let same : p x ≡ p n = ap p (eqb-true x n t) in
    choose (λ l. lists l n ≡ lists (x ∷ xs) n && p n) (p x) (x ∷ filter p xs) (filter p xs)
    (λ e. or_left (x == n) (lists (filter p xs) n) t ∙ sym (and_from (lists (x ∷ xs) n) (p n) (or_left (x == n) (lists xs n) t) (sym same ∙ e)))
    (λ e. lists_filter p xs n ∙ and_right (lists xs n) (p n) (sym same ∙ e) ∙ sym (and_right (lists (x ∷ xs) n) (p n) (sym same ∙ e))))
    (λ f.
    choose (λ l. lists l n ≡ lists (x ∷ xs) n && p n) (p x) (x ∷ filter p xs) (filter p xs)
    (λ e. ap (λ b. b || lists (filter p xs) n) f ∙ lists_filter p xs n ∙ sym (ap (λ b. (b || lists xs n) && p n) f))
    (λ e. lists_filter p xs n ∙ sym (ap (λ b. (b || lists xs n) && p n) f)))
    (cases_Bool (x == n))

-- what is left of a set by a test, as a list
pub filtered : (a b : List Run) (p : ℕ → Bool) → AreRuns a → AreRuns b → ((n : ℕ) → has a n ≡ has b n && p n) → numbers_of a ≡ filter p (numbers_of b)
filtered a b p h k same =
    same_list 1 (numbers_of a) (filter p (numbers_of b)) (rise_runs 1 a h) (rise_filter p 1 (numbers_of b) (rise_runs 1 b k))
    (λ n. lists_numbers a n ∙ same n ∙ ap (λ t. t && p n) (sym (lists_numbers b n)) ∙ sym (lists_filter p (numbers_of b) n))

-- the number itself, where the list has it
pub found : (xs : List ℕ) (n : ℕ) → lists xs n ≡ true → find (λ x. x == n) xs ≡ Some n
found [] n h = absurd (both_ways false refl h)
found (x ∷ xs) n h =
    choose (λ o. o ≡ Some n) (x == n) (Some x) (find (λ x. x == n) xs)
    (λ e. ap Some (eqb-true x n e))
    (λ e. found xs n (sym (ap (λ b. b || lists xs n) e) ∙ h))

pub not_found : (xs : List ℕ) (n : ℕ) → lists xs n ≡ false → find (λ x. x == n) xs ≡ None
not_found [] n h = refl
not_found (x ∷ xs) n h =
    choose (λ o. o ≡ None) (x == n) (Some x) (find (λ x. x == n) xs)
    (λ e. absurd (both_ways (lists (x ∷ xs) n) h (or_left (x == n) (lists xs n) e)))
    (λ e. not_found xs n (sym (ap (λ b. b || lists xs n) e) ∙ h))

pub first_listed : (n : ℕ) (ns : List ℕ) → lists (n ∷ ns) n ≡ true
first_listed n ns = ap (λ b. b || lists ns n) ((Decides-eqb n n).1 refl)

pub other_listed : (m n : ℕ) (ns : List ℕ) → lists ns n ≡ true → lists (m ∷ ns) n ≡ true
other_listed m n ns e = go (m == n)
  where
    go : (b : Bool) → b || lists ns n ≡ true
    go true = refl
    go false = e

-- what holds of each number of a list holds of its first and of each of the others
pub rest_of : {F : ℕ → Type 0} (n : ℕ) (ns : List ℕ) → ((k : ℕ) → lists (n ∷ ns) k ≡ true → F k) → (k : ℕ) → lists ns k ≡ true → F k
rest_of n ns f k e = f k (other_listed n k ns e)

pub first_of : {F : ℕ → Type 0} (n : ℕ) (ns : List ℕ) → ((k : ℕ) → lists (n ∷ ns) k ≡ true → F k) → F n
first_of n ns f = f n (first_listed n ns)

pub first_or : (n k : ℕ) (ns : List ℕ) → lists (n ∷ ns) k ≡ true → (n ≡ k) ⊎ (lists ns k ≡ true)
first_or n k ns e = go (n == k) refl
  where
    go : (b : Bool) → (n == k) ≡ b → (n ≡ k) ⊎ (lists ns k ≡ true)
    go true same = inl (eqb-true n k same)
    go false other = inr (ap (λ b. b || lists ns k) (sym other) ∙ e)
