-- Parts of ascending numbers.
use Rattle.std.proofs.Common.{◌≡◌, ℕ, zero, suc, ◌+◌, ◌-◌, ◌<◌, ◌≤◌, Bool, false, Some, None, List, [], ◌∷◌, ◌++◌, length, take, drop, refl, sym, ◌∙◌, ap, arith, ⊎_elim}
use Rattle.std.proofs.Math.Seq.{drop-nil}
use Rattle.std.specs.Prelude.{◌&&◌, ◌==◌, nat_le, filter, slice_get}
use Rattle.std.specs.List.{range_with_len}
use Rattle.std.proofs.lemmas.Bool.{cases_lt, leb-true, leb-false, le-leb, lt-leb, cond-true, cond-false, eq-eqb, ne_eqb, and_from, and_left, and_right}
use Rattle.mh_sequences.specs.declared.run.Run.{Run}
use Rattle.mh_sequences.specs.Runs.{AreRuns, AreRunsFrom, numbers_of}
use Rattle.mh_sequences.proofs.Bools.{choose}
use Rattle.msg_ranges.specs.Selection.{from, up_to, least, greatest}
use Rattle.msg_ranges.proofs.Rising.{Rise, rise_runs, rise_filter}

-- a test that all pass, or none
pub none_up_to : (a low : ℕ) (xs : List ℕ) → Rise low xs → a < low → up_to a xs ≡ []
none_up_to a low [] h lt = refl
none_up_to a low (x ∷ xs) h lt = cond-false (nat_le x a) (x ∷ up_to a xs) (up_to a xs) (lt-leb x a (omega arith)) ∙ none_up_to a (x + 1) xs h.1 (omega arith)

pub all_from : (a low : ℕ) (xs : List ℕ) → Rise low xs → a ≤ low → from a xs ≡ xs
all_from a low [] h le = refl
all_from a low (x ∷ xs) h le = cond-true (nat_le a x) (x ∷ from a xs) (from a xs) (le-leb a x (omega arith)) ∙ ap (λ l. x ∷ l) (all_from a (x + 1) xs h.1 (omega arith))

-- two tests, one after the other
pub filter_swap : (p q : ℕ → Bool) (xs : List ℕ) → filter p (filter q xs) ≡ filter q (filter p xs)
filter_swap p q [] = refl
filter_swap p q (x ∷ xs) =
    choose (λ l. filter p l ≡ filter q (filter p (x ∷ xs))) (q x) (x ∷ filter q xs) (filter q xs)
    (λ e. choose (λ l. filter p (x ∷ filter q xs) ≡ filter q l) (p x) (x ∷ filter p xs) (filter p xs)
    (λ f. cond-true (p x) (x ∷ filter p (filter q xs)) (filter p (filter q xs)) f ∙ ap (λ l. x ∷ l) (filter_swap p q xs) ∙ sym (cond-true (q x) (x ∷ filter q (filter p xs)) (filter q (filter p xs)) e))
    (λ f. cond-false (p x) (x ∷ filter p (filter q xs)) (filter p (filter q xs)) f ∙ filter_swap p q xs))
    (λ e. choose (λ l. filter p (filter q xs) ≡ filter q l) (p x) (x ∷ filter p xs) (filter p xs)
    (λ f. filter_swap p q xs ∙ sym (cond-false (q x) (x ∷ filter q (filter p xs)) (filter q (filter p xs)) e))
    (λ f. filter_swap p q xs))

-- what is at most a number stands in front, and the rest is above it
pub front_up_to : (a low : ℕ) (xs : List ℕ) → Rise low xs → up_to a xs ≡ take (length (up_to a xs)) xs
front_up_to a low [] h = refl
front_up_to a low (x ∷ xs) h = ⊎_elim
    (λ lt. let none = none_up_to a x (x ∷ xs) (omega arith, h.1) lt in none ∙ ap (λ l. take (length l) (x ∷ xs)) (sym none))
    (λ le. let some = cond-true (nat_le x a) (x ∷ up_to a xs) (up_to a xs) (le-leb x a le) in
    some ∙ ap (λ l. x ∷ l) (front_up_to a (x + 1) xs h.1) ∙ ap (λ l. take (length l) (x ∷ xs)) (sym some))
    (cases_lt a x)

pub back_from : (a low : ℕ) (xs : List ℕ) → Rise low xs → from (a + 1) xs ≡ drop (length (up_to a xs)) xs
back_from a low [] h = refl
back_from a low (x ∷ xs) h = ⊎_elim
    (λ lt. all_from (a + 1) x (x ∷ xs) (omega arith, h.1) (omega arith) ∙ ap (λ l. drop (length l) (x ∷ xs)) (sym (none_up_to a x (x ∷ xs) (omega arith, h.1) lt)))
    (λ le. let some = cond-true (nat_le x a) (x ∷ up_to a xs) (up_to a xs) (le-leb x a le) in
    cond-false (nat_le (a + 1) x) (x ∷ from (a + 1) xs) (from (a + 1) xs) (lt-leb (a + 1) x (omega arith)) ∙ back_from a (x + 1) xs h.1 ∙ ap (λ l. drop (length l) (x ∷ xs)) (sym some))
    (cases_lt a x)

pub place_above : (low : ℕ) (xs : List ℕ) (k y : ℕ) → Rise low xs → slice_get xs k ≡ Some y → low ≤ y
place_above low [] k y h e = cc
place_above low (x ∷ xs) zero y h e = let same : x ≡ y = cc in omega arith
place_above low (x ∷ xs) (suc k) y h e = let more = place_above (x + 1) xs k y h.1 e in omega arith

-- before the number at a place stand those below it
pub before_place : (low : ℕ) (xs : List ℕ) (k y : ℕ) → 1 ≤ low → Rise low xs → slice_get xs k ≡ Some y → take k xs ≡ up_to (y - 1) xs
before_place low [] k y some h e = cc
before_place low (x ∷ xs) zero y some h e = let same : x ≡ y = cc in sym (none_up_to (y - 1) x (x ∷ xs) (omega arith, h.1) (omega arith))
before_place low (x ∷ xs) (suc k) y some h e =
    let lt = place_above (x + 1) xs k y h.1 e in
    ap (λ l. x ∷ l) (before_place (x + 1) xs k y (omega arith) h.1 e) ∙ sym (cond-true (nat_le x (y - 1)) (x ∷ up_to (y - 1) xs) (up_to (y - 1) xs) (le-leb x (y - 1) (omega arith)))

-- and from it on those that are at least it
pub from_place : (low : ℕ) (xs : List ℕ) (k y : ℕ) → Rise low xs → slice_get xs k ≡ Some y → drop k xs ≡ from y xs
from_place low [] k y h e = cc
from_place low (x ∷ xs) zero y h e = let same : x ≡ y = cc in sym (all_from y x (x ∷ xs) (omega arith, h.1) (omega arith))
from_place low (x ∷ xs) (suc k) y h e =
    let lt = place_above (x + 1) xs k y h.1 e in
    from_place (x + 1) xs k y h.1 e ∙ sym (cond-false (nat_le y x) (x ∷ from y xs) (from y xs) (lt-leb y x (omega arith)))

-- past the end
pub take_all : (xs : List ℕ) (k : ℕ) → slice_get xs k ≡ None → take k xs ≡ xs
take_all [] zero e = refl
take_all [] (suc k) e = refl
take_all (x ∷ xs) zero e = cc
take_all (x ∷ xs) (suc k) e = ap (λ l. x ∷ l) (take_all xs k e)

pub drop_all : (xs : List ℕ) (k : ℕ) → slice_get xs k ≡ None → drop k xs ≡ []
drop_all [] zero e = refl
drop_all [] (suc k) e = refl
drop_all (x ∷ xs) zero e = cc
drop_all (x ∷ xs) (suc k) e = drop_all xs k e

pub get_behind : (xs : List ℕ) (i k : ℕ) → slice_get (drop i xs) k ≡ slice_get xs (i + k)
get_behind xs zero k = let e : k ≡ 0 + k = omega arith in ap (slice_get xs) e
get_behind [] (suc i) k = refl
get_behind (x ∷ xs) (suc i) k = let e : suc (i + k) ≡ suc i + k = omega arith in get_behind xs i k ∙ ap (slice_get (x ∷ xs)) e

pub get_in_front : (xs : List ℕ) (n k : ℕ) → k < n → slice_get (take n xs) k ≡ slice_get xs k
get_in_front xs zero k lt = absurd (omega arith)
get_in_front [] (suc n) k lt = refl
get_in_front (x ∷ xs) (suc n) zero lt = refl
get_in_front (x ∷ xs) (suc n) (suc k) lt = get_in_front xs n k (omega arith)

-- a part of what is at most a number
pub drop_up_to : (low : ℕ) (xs : List ℕ) (a k : ℕ) → Rise low xs → drop k (up_to a xs) ≡ up_to a (drop k xs)
drop_up_to low xs a zero h = refl
drop_up_to low [] a (suc k) h = refl
drop_up_to low (x ∷ xs) a (suc k) h = ⊎_elim
    (λ lt. ap (drop (suc k)) (none_up_to a x (x ∷ xs) (omega arith, h.1) lt) ∙ sym (ap (drop k) (none_up_to a (x + 1) xs h.1 (omega arith)) ∙ drop-nil k) ∙ (λ i. drop_up_to (x + 1) xs a k h.1 i))
    (λ le. ap (drop (suc k)) (cond-true (nat_le x a) (x ∷ up_to a xs) (up_to a xs) (le-leb x a le)) ∙ drop_up_to (x + 1) xs a k h.1)
    (cases_lt a x)

-- a number alone
pub just : (n : ℕ) (xs : List ℕ) → from n (up_to n xs) ≡ filter (λ x. x == n) xs
just n [] = refl
just n (x ∷ xs) =
    choose (λ l. from n l ≡ filter (λ x. x == n) (x ∷ xs)) (nat_le x n) (x ∷ up_to n xs) (up_to n xs)
    (λ e. choose (λ l. l ≡ filter (λ x. x == n) (x ∷ xs)) (nat_le n x) (x ∷ from n (up_to n xs)) (from n (up_to n xs))
    (λ f. let le = leb-true x n e in let ge = leb-true n x f in ap (λ l. x ∷ l) (just n xs) ∙ sym (cond-true (x == n) (x ∷ filter (λ x. x == n) xs) (filter (λ x. x == n) xs) (eq-eqb x n (omega arith))))
    (λ f. let gt = leb-false n x f in just n xs ∙ sym (cond-false (x == n) (x ∷ filter (λ x. x == n) xs) (filter (λ x. x == n) xs) (ne_eqb x n (λ s. omega arith)))))
    (λ e. let gt = leb-false x n e in just n xs ∙ sym (cond-false (x == n) (x ∷ filter (λ x. x == n) xs) (filter (λ x. x == n) xs) (ne_eqb x n (λ s. omega arith))))

-- two tests as one
pub two_tests : (p q : ℕ → Bool) (xs : List ℕ) → filter (λ x. p x && q x) xs ≡ filter p (filter q xs)
two_tests p q [] = refl
two_tests p q (x ∷ xs) =
    choose (λ l. filter (λ x. p x && q x) (x ∷ xs) ≡ filter p l) (q x) (x ∷ filter q xs) (filter q xs)
    (λ e. choose (λ l. filter (λ x. p x && q x) (x ∷ xs) ≡ l) (p x) (x ∷ filter p (filter q xs)) (filter p (filter q xs))
    (λ f. cond-true (p x && q x) (x ∷ filter (λ x. p x && q x) xs) (filter (λ x. p x && q x) xs) (and_from (p x) (q x) f e) ∙ ap (λ l. x ∷ l) (two_tests p q xs))
    (λ f. cond-false (p x && q x) (x ∷ filter (λ x. p x && q x) xs) (filter (λ x. p x && q x) xs) (and_left (p x) (q x) f) ∙ two_tests p q xs))
    (λ e. cond-false (p x && q x) (x ∷ filter (λ x. p x && q x) xs) (filter (λ x. p x && q x) xs) (and_right (p x) (q x) e) ∙ two_tests p q xs)

pub none_pass : (xs : List ℕ) → filter (λ x. false) xs ≡ []
none_pass [] = refl
none_pass (x ∷ xs) = none_pass xs

-- numbers that are at most this
abbrev pub Stay : ℕ → List ℕ → Type 0
Stay top [] = Unit {0}
Stay top (x ∷ xs) = (x ≤ top) × Stay top xs

pub all_up_to : (top : ℕ) (xs : List ℕ) → Stay top xs → up_to top xs ≡ xs
all_up_to top [] h = refl
all_up_to top (x ∷ xs) h = cond-true (nat_le x top) (x ∷ up_to top xs) (up_to top xs) (le-leb x top h.0) ∙ ap (λ l. x ∷ l) (all_up_to top xs h.1)

stay_range : (top a k : ℕ) (xs : List ℕ) → a + k ≤ top + 1 → Stay top xs → Stay top (range_with_len a k ++ xs)
stay_range top a zero xs le h = h
stay_range top a (suc k) xs le h = (omega arith, stay_range top (a + 1) k xs (omega arith) h)

pub stay_runs : (low : ℕ) (rs : List Run) → AreRunsFrom low rs → Stay 999999 (numbers_of rs)
stay_runs low [] h = tt
stay_runs low (r ∷ rs) h = stay_range 999999 r.from (r.to + 1 - r.from) (numbers_of rs) (omega arith) (stay_runs (r.to + 2) rs h.3)

pub all_at_most : (rs : List Run) → AreRuns rs → up_to 999999 (numbers_of rs) ≡ numbers_of rs
all_at_most rs h = all_up_to 999999 (numbers_of rs) (stay_runs 1 rs h)

pub all_at_least : (rs : List Run) → AreRuns rs → from 1 (numbers_of rs) ≡ numbers_of rs
all_at_least rs h = all_from 1 1 (numbers_of rs) (rise_runs 1 rs h) (omega arith)

module _ (xs : List ℕ) (h : Rise 1 xs) where
  -- the nearest numbers
  pub least_above : (n : ℕ) → slice_get xs (length (up_to n xs)) ≡ least (from (n + 1) xs)
  least_above n =
      let e : length (up_to n xs) ≡ length (up_to n xs) + 0 = omega arith in
      ap (slice_get xs) e ∙ sym (get_behind xs (length (up_to n xs)) 0) ∙ ap (λ l. slice_get l 0) (sym (back_from n 1 xs h))

  pub greatest_up_to : (n : ℕ) → 1 ≤ length (up_to n xs) → slice_get xs (length (up_to n xs) - 1) ≡ greatest (up_to n xs)
  greatest_up_to n some =
      sym (get_in_front xs (length (up_to n xs)) (length (up_to n xs) - 1) (omega arith)) ∙ ap (λ l. slice_get l (length (up_to n xs) - 1)) (sym (front_up_to n 1 xs h))

  starts : (a : ℕ) → 1 ≤ a → from a xs ≡ drop (length (up_to (a - 1) xs)) xs
  starts a some = let e : a ≡ a - 1 + 1 = omega arith in ap (λ z. from z xs) e ∙ back_from (a - 1) 1 xs h

  -- the first so many from a number on
  pub first_some : (a count y : ℕ) → 1 ≤ a → slice_get xs (length (up_to (a - 1) xs) + count) ≡ Some y → take count (from a xs) ≡ from a (up_to (y - 1) xs)
  first_some a count y some e =
      before_place 1 (from a xs) count y (omega arith) (rise_filter (λ x. nat_le a x) 1 xs h)
      (ap (λ l. slice_get l count) (starts a some) ∙ get_behind xs (length (up_to (a - 1) xs)) count ∙ e)
      ∙ filter_swap (λ x. nat_le x (y - 1)) (λ x. nat_le a x) xs

  pub first_all : (a count : ℕ) → 1 ≤ a → slice_get xs (length (up_to (a - 1) xs) + count) ≡ None → take count (from a xs) ≡ from a xs
  first_all a count some e = take_all (from a xs) count (ap (λ l. slice_get l count) (starts a some) ∙ get_behind xs (length (up_to (a - 1) xs)) count ∙ e)

  -- the last so many up to a number
  pub last_some : (a k y : ℕ) → slice_get xs k ≡ Some y → drop k (up_to a xs) ≡ from y (up_to a xs)
  last_some a k y e = drop_up_to 1 xs a k h ∙ ap (up_to a) (from_place 1 xs k y h e) ∙ filter_swap (λ x. nat_le x a) (λ x. nat_le y x) xs

  pub last_none : (a k : ℕ) → slice_get xs k ≡ None → drop k (up_to a xs) ≡ []
  last_none a k e = drop_up_to 1 xs a k h ∙ ap (up_to a) (drop_all xs k e)
