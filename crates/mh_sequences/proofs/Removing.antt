-- A number taken out of runs.
use Rattle.std.proofs.Common.{◌≡◌, ℕ, zero, suc, ◌+◌, ◌-◌, ◌<◌, ◌≤◌, Bool, true, false, List, [], ◌∷◌, ◌++◌, take, drop, Some, refl, sym, ◌∙◌, ap, arith, add-one, ⊎_elim}
use Rattle.std.specs.Prelude.{slice_get, slice_set, ◌&&◌, ◌||◌, ◌==◌, not, nat_le, nat_lt, if◌then◌else◌}
use Rattle.std.specs.List.{prefix_len}
use Rattle.std.proofs.lemmas.Bool.{cases_Bool, ltb-true, ltb-false, or_from, eqb-true, eqb-false, lt-ltb, le-ltb, or_parts, both_ways}
use Rattle.std.proofs.lemmas.Bool.Decides.{nat_tests}
use Rattle.mh_sequences.specs.declared.run.Run.{Run}
use Rattle.mh_sequences.specs.Edits.{front, back, removed}
use Rattle.mh_sequences.specs.Runs.{AreRunsFrom, inside, has}
use Rattle.mh_sequences.proofs.Adding.{weaker}
use Rattle.mh_sequences.proofs.Bools.{or_group, choose}

-- no number stands before the first run
pub has_below : (low : ℕ) (rs : List Run) → AreRunsFrom low rs → (m : ℕ) → m < low → has rs m ≡ false
has_below low [] h m lt = refl
has_below low (r ∷ rs) h m lt =
    let first : inside r m ≡ false = grind (arith, nat_tests) in
    or_from (inside r m) (has rs m) first (has_below (r.to + 2) rs h.3 m (omega arith))

has_append : (xs ys : List Run) (m : ℕ) → has (xs ++ ys) m ≡ has xs m || has ys m
has_append [] ys m = refl
has_append (x ∷ xs) ys m = ap (λ b. inside x m || b) (has_append xs ys m) ∙ sym (or_group (inside x m) (has xs m) (has ys m))

front_has : (r : Run) (n m : ℕ) → has (front r n) m ≡ nat_le r.from m && nat_lt m n
front_has r n m =
    choose (λ l. has l m ≡ nat_le r.from m && nat_lt m n) (nat_lt r.from n) (record { from = r.from; to = n - 1 } ∷ []) []
    (λ e. let lt = ltb-true r.from n e in grind (arith, nat_tests))
    (λ e. let ge = ltb-false r.from n e in grind (arith, nat_tests))

back_has : (r : Run) (n m : ℕ) → has (back r n) m ≡ nat_lt n m && nat_le m r.to
back_has r n m =
    choose (λ l. has l m ≡ nat_lt n m && nat_le m r.to) (nat_lt n r.to) (record { from = n + 1; to = r.to } ∷ []) []
    (λ e. let lt = ltb-true n r.to e in grind (arith, nat_tests))
    (λ e. let ge = ltb-false n r.to e in grind (arith, nat_tests))

split_has : (r : Run) (n m : ℕ) → r.from ≤ n → n ≤ r.to → (m ≡ n → ⊥) → (nat_le r.from m && nat_lt m n) || (nat_lt n m && nat_le m r.to) ≡ inside r m
split_has r n m x y ne = grind (arith, nat_tests)

pieces_has : (r : Run) (rs : List Run) (n m : ℕ) → has (front r n ++ (back r n ++ rs)) m ≡ ((nat_le r.from m && nat_lt m n) || (nat_lt n m && nat_le m r.to)) || has rs m
pieces_has r rs n m =
    has_append (front r n) (back r n ++ rs) m
    ∙ (λ i. front_has r n m i || has_append (back r n) rs m i)
    ∙ ap (λ b. (nat_le r.from m && nat_lt m n) || (b || has rs m)) (back_has r n m)
    ∙ sym (or_group (nat_le r.from m && nat_lt m n) (nat_lt n m && nat_le m r.to) (has rs m))

removed_gone : (low : ℕ) (rs : List Run) → AreRunsFrom low rs → (n : ℕ) → has (removed n rs) n ≡ false
removed_gone low [] h n = refl
removed_gone low (r ∷ rs) h n =
    choose (λ l. has l n ≡ false) (nat_lt r.to n) (r ∷ removed n rs) (if nat_lt n r.from then r ∷ rs else front r n ++ (back r n ++ rs))
    (λ e. let lt = ltb-true r.to n e in let first : inside r n ≡ false = grind (arith, nat_tests) in
    or_from (inside r n) (has (removed n rs) n) first (removed_gone (r.to + 2) rs h.3 n))
    (λ e. let ge = ltb-false r.to n e in
    choose (λ l. has l n ≡ false) (nat_lt n r.from) (r ∷ rs) (front r n ++ (back r n ++ rs))
    (λ f. let lt = ltb-true n r.from f in has_below (n + 1) (r ∷ rs) (omega arith, h.1, h.2, h.3) n (omega arith))
    (λ f. let none : (nat_le r.from n && nat_lt n n) || (nat_lt n n && nat_le n r.to) ≡ false = grind (arith, nat_tests) in
    pieces_has r rs n n ∙ or_from ((nat_le r.from n && nat_lt n n) || (nat_lt n n && nat_le n r.to)) (has rs n) none (has_below (r.to + 2) rs h.3 n (omega arith))))

removed_kept : (rs : List Run) (n m : ℕ) → (m ≡ n → ⊥) → has (removed n rs) m ≡ has rs m
removed_kept [] n m ne = refl
removed_kept (r ∷ rs) n m ne =
    choose (λ l. has l m ≡ has (r ∷ rs) m) (nat_lt r.to n) (r ∷ removed n rs) (if nat_lt n r.from then r ∷ rs else front r n ++ (back r n ++ rs))
    (λ e. ap (λ b. inside r m || b) (removed_kept rs n m ne))
    (λ e. let ge = ltb-false r.to n e in
    choose (λ l. has l m ≡ has (r ∷ rs) m) (nat_lt n r.from) (r ∷ rs) (front r n ++ (back r n ++ rs))
    (λ f. refl)
    (λ f. let le = ltb-false n r.from f in pieces_has r rs n m ∙ ap (λ b. b || has rs m) (split_has r n m le ge ne)))

by_same : (a b t : Bool) → (t ≡ true → a ≡ false) → (t ≡ false → a ≡ b) → a ≡ b && not t
by_same a true true f g = f refl
by_same a false true f g = f refl
by_same a true false f g = g refl
by_same a false false f g = g refl

pub removed_has : (low : ℕ) (rs : List Run) → AreRunsFrom low rs → (n m : ℕ) → has (removed n rs) m ≡ has rs m && not (m == n)
removed_has low rs h n m =
    by_same (has (removed n rs) m) (has rs m) (m == n)
    (λ e. ap (has (removed n rs)) (eqb-true m n e) ∙ removed_gone low rs h n)
    (λ e. removed_kept rs n m (eqb-false m n e))

pub removed_runs : (low : ℕ) (rs : List Run) → AreRunsFrom low rs → (n : ℕ) → AreRunsFrom low (removed n rs)
removed_runs low [] h n = tt
removed_runs low (r ∷ rs) h n =
    choose (λ l. AreRunsFrom low l) (nat_lt r.to n) (r ∷ removed n rs) (if nat_lt n r.from then r ∷ rs else front r n ++ (back r n ++ rs))
    (λ e. (h.0, h.1, h.2, removed_runs (r.to + 2) rs h.3 n))
    (λ e. choose (λ l. AreRunsFrom low l) (nat_lt n r.from) (r ∷ rs) (front r n ++ (back r n ++ rs))
    (λ f. h)
    (λ f. let le = ltb-false n r.from f in let ge = ltb-false r.to n e in
    choose (λ l. AreRunsFrom low (l ++ (back r n ++ rs))) (nat_lt r.from n) (record { from = r.from; to = n - 1 } ∷ []) []
    (λ x. let lt = ltb-true r.from n x in (h.0, omega arith, omega arith, behind (n - 1 + 2) (omega arith) ge))
    (λ x. behind low (omega arith) ge)))
  where
    behind : (from : ℕ) → from ≤ n + 1 → n ≤ r.to → AreRunsFrom from (back r n ++ rs)
    behind from le top =
        choose (λ l. AreRunsFrom from (l ++ rs)) (nat_lt n r.to) (record { from = n + 1; to = r.to } ∷ []) []
        (λ y. let lt = ltb-true n r.to y in (le, omega arith, h.2, h.3))
        (λ y. let ge = ltb-false n r.to y in weaker from (r.to + 2) rs (omega arith) h.3)

-- the runs before it stay
pub removed_split : (n : ℕ) (rs : List Run) → removed n rs ≡ take (prefix_len (λ r. nat_lt r.to n) rs) rs ++ removed n (drop (prefix_len (λ r. nat_lt r.to n) rs) rs)
removed_split n [] = refl
removed_split n (r ∷ rs) = ⊎_elim
    (λ e. let on : 1 + prefix_len (λ s. nat_lt s.to n) rs ≡ suc (prefix_len (λ s. nat_lt s.to n) rs) = omega arith in
    rw e (rw on (ap (λ l. r ∷ l) (removed_split n rs))))
    (λ e. rw e (rw e refl))
    (cases_Bool (nat_lt r.to n))

set_at : (xs : List Run) (i : ℕ) (r x : Run) → slice_get xs i ≡ Some r → slice_set xs i x ≡ take i xs ++ (x ∷ drop (suc i) xs)
set_at [] i r x e = cc
set_at (y ∷ ys) zero r x e = refl
set_at (y ∷ ys) (suc i) r x e = ap (λ l. y ∷ l) (set_at ys i r x e)

set_two : (xs : List Run) (i : ℕ) (r x z : Run) → slice_get xs i ≡ Some r → slice_set (take (suc i) xs ++ (z ∷ drop (suc i) xs)) i x ≡ take i xs ++ (x ∷ z ∷ drop (suc i) xs)
set_two [] i r x z e = cc
set_two (y ∷ ys) zero r x z e = refl
set_two (y ∷ ys) (suc i) r x z e = ap (λ l. y ∷ l) (set_two ys i r x z e)

-- the number was the first of its run
pub without_first : (xs : List Run) (i : ℕ) (r : Run) (n m : ℕ) → slice_get xs i ≡ Some r → r.from ≡ n → n < r.to → m ≡ n + 1 → slice_set xs i (record { from = m; to = r.to }) ≡ take i xs ++ (front r n ++ (back r n ++ drop (i + 1) xs))
without_first xs i r n m e first lt is =
    rw (le-ltb r.from n (omega arith), lt-ltb n r.to lt, add-one i, is) (set_at xs i r (record { from = n + 1; to = r.to }) e)

-- or the last
pub without_last : (xs : List Run) (i : ℕ) (r : Run) (n m : ℕ) → slice_get xs i ≡ Some r → r.to ≡ n → r.from < n → m ≡ n - 1 → slice_set xs i (record { from = r.from; to = m }) ≡ take i xs ++ (front r n ++ (back r n ++ drop (i + 1) xs))
without_last xs i r n m e last lt is =
    rw (lt-ltb r.from n lt, le-ltb n r.to (omega arith), add-one i, is) (set_at xs i r (record { from = r.from; to = n - 1 }) e)

-- or stood between
pub without_inner : (xs ys : List Run) (i : ℕ) (r : Run) (n m k : ℕ) → slice_get xs i ≡ Some r → r.from < n → n < r.to → m ≡ n - 1 → k ≡ n + 1 → ys ≡ take (i + 1) xs ++ (record { from = k; to = r.to } ∷ drop (i + 1) xs) → slice_set ys i (record { from = r.from; to = m }) ≡ take i xs ++ (front r n ++ (back r n ++ drop (i + 1) xs))
without_inner xs ys i r n m k e low high is next made =
    rw (lt-ltb r.from n low, lt-ltb n r.to high, add-one i, is, made, add-one i, next) (set_two xs i r (record { from = r.from; to = n - 1 }) (record { from = n + 1; to = r.to }) e)

found_drop : (xs : List Run) (i : ℕ) (r : Run) → slice_get xs i ≡ Some r → drop i xs ≡ r ∷ drop (suc i) xs
found_drop [] i r e = cc
found_drop (y ∷ ys) zero r e = let same : y ≡ r = cc in ap (λ z. z ∷ ys) same
found_drop (y ∷ ys) (suc i) r e = found_drop ys i r e

-- the number stands in this run
pub removed_here : (rs : List Run) (n k : ℕ) (r : Run) → k ≡ prefix_len (λ s. nat_lt s.to n) rs → slice_get rs k ≡ Some r → r.from ≤ n → n ≤ r.to → removed n rs ≡ take k rs ++ (front r n ++ (back r n ++ drop (k + 1) rs))
removed_here rs n k r is e low high =
    removed_split n rs
    ∙ ap (λ j. take j rs ++ removed n (drop j rs)) (sym is)
    ∙ ap (λ l. take k rs ++ removed n l) (found_drop rs k r e)
    ∙ rw (le-ltb r.to n high, le-ltb n r.from low, add-one k) refl

-- or in none
pub removed_none : (low : ℕ) (rs : List Run) → AreRunsFrom low rs → (n : ℕ) → has rs n ≡ false → removed n rs ≡ rs
removed_none low [] h n e = refl
removed_none low (r ∷ rs) h n e =
    let parts = or_parts (inside r n) (has rs n) e in
    choose (λ l. l ≡ r ∷ rs) (nat_lt r.to n) (r ∷ removed n rs) (if nat_lt n r.from then r ∷ rs else front r n ++ (back r n ++ rs))
    (λ x. ap (λ l. r ∷ l) (removed_none (r.to + 2) rs h.3 n parts.1))
    (λ x. let ge = ltb-false r.to n x in
    choose (λ l. l ≡ r ∷ rs) (nat_lt n r.from) (r ∷ rs) (front r n ++ (back r n ++ rs))
    (λ y. refl)
    (λ y. let le = ltb-false n r.from y in let there : inside r n ≡ true = grind (arith, nat_tests) in absurd (both_ways (inside r n) parts.0 there)))

-- the runs before it stay
pub removed_front : (n : ℕ) (rs : List Run) → take (prefix_len (λ r. nat_lt r.to n) rs) (removed n rs) ≡ take (prefix_len (λ r. nat_lt r.to n) rs) rs
removed_front n [] = refl
removed_front n (r ∷ rs) = ⊎_elim
    (λ e. let on : 1 + prefix_len (λ s. nat_lt s.to n) rs ≡ suc (prefix_len (λ s. nat_lt s.to n) rs) = omega arith in
    rw e (rw on (ap (λ l. r ∷ l) (removed_front n rs))))
    (λ e. rw e refl)
    (cases_Bool (nat_lt r.to n))
