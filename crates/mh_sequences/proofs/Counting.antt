-- The numbers of runs, counted and by place.
use Rattle.std.proofs.Common.{◌≡◌, ℕ, zero, suc, ◌+◌, ◌-◌, ◌<◌, ◌≤◌, Some, None, List, [], ◌∷◌, ◌++◌, length, get_or, drop, sym, ◌∙◌, ap, arith, drop-cons, add-one, length-append}
use Rattle.std.proofs.Math.Seq.{drop-length}
use Rattle.std.specs.Prelude.{slice_get}
use Rattle.std.specs.List.{range_with_len}
use Rattle.std.proofs.lemmas.List.FromFn.{length-range_with_len}
use Rattle.mh_sequences.specs.declared.run.Run.{Run}
use Rattle.mh_sequences.specs.Runs.{AreRuns, AreRunsFrom, numbers_of}

few_from : (low : ℕ) (rs : List Run) → AreRunsFrom low rs → length (numbers_of rs) ≤ 1000000 - low
few_from low [] h = omega arith
few_from low (r ∷ rs) h =
    let rest = few_from (r.to + 2) rs h.3 in
    let all = length-append (range_with_len r.from (r.to + 1 - r.from)) (numbers_of rs) in
    let here = length-range_with_len r.from (r.to + 1 - r.from) in
    omega arith

-- there are fewer than a million numbers
pub few : (rs : List Run) → AreRuns rs → length (numbers_of rs) ≤ 999999
few rs h = let le = few_from 1 rs h in omega arith

ordered_from : (low : ℕ) (rs : List Run) → AreRunsFrom low rs → (i : ℕ) (d : Run) → i < length rs → (get_or rs i d).from ≤ (get_or rs i d).to
ordered_from low [] h i d lt = absurd (omega arith)
ordered_from low (r ∷ rs) h zero d lt = h.1
ordered_from low (r ∷ rs) h (suc i) d lt = ordered_from (r.to + 2) rs h.3 i d (omega arith)

-- a run starts where it ends, or before
pub ordered : (rs : List Run) → AreRuns rs → (i : ℕ) (r : Run) → i < length rs → r ≡ get_or rs i r → r.from ≤ r.to
ordered rs h i r lt is = let o = ordered_from 1 rs h i r lt in rw (← is) at o

-- the numbers from a place on
pub numbers_more : (rs : List Run) (i : ℕ) (r : Run) → i < length rs → r ≡ get_or rs i r → numbers_of (drop i rs) ≡ range_with_len r.from (r.to + 1 - r.from) ++ numbers_of (drop (i + 1) rs)
numbers_more rs i r lt is =
    ap numbers_of (drop-cons rs i r lt ∙ ap (λ x. x ∷ drop (suc i) rs) (sym is))
    ∙ ap (λ j. range_with_len r.from (r.to + 1 - r.from) ++ numbers_of (drop j rs)) (sym (add-one i))

pub counted : (rs : List Run) (i : ℕ) (r : Run) → i < length rs → r ≡ get_or rs i r → length (numbers_of (drop i rs)) ≡ (r.to + 1 - r.from) + length (numbers_of (drop (i + 1) rs))
counted rs i r lt is =
    let all = length-append (range_with_len r.from (r.to + 1 - r.from)) (numbers_of (drop (i + 1) rs)) in
    let here = length-range_with_len r.from (r.to + 1 - r.from) in
    ap length (numbers_more rs i r lt is) ∙ omega arith

pub counted_all : (rs : List Run) → length (numbers_of (drop (length rs) rs)) ≡ 0
counted_all rs = ap (λ l. length (numbers_of l)) (drop-length rs)

range_get : (a n k : ℕ) (xs : List ℕ) → k < n → slice_get (range_with_len a n ++ xs) k ≡ Some (a + k)
range_get a zero k xs lt = absurd (omega arith)
range_get a (suc n) zero xs lt = let e : a ≡ a + 0 = omega arith in ap Some e
range_get a (suc n) (suc k) xs lt = let e : a + 1 + k ≡ a + suc k = omega arith in range_get (a + 1) n k xs (omega arith) ∙ ap Some e

range_past : (a n k : ℕ) (xs : List ℕ) → n ≤ k → slice_get (range_with_len a n ++ xs) k ≡ slice_get xs (k - n)
range_past a zero k xs le = let e : k ≡ k - 0 = omega arith in ap (slice_get xs) e
range_past a (suc n) zero xs le = absurd (omega arith)
range_past a (suc n) (suc k) xs le = let e : k - n ≡ suc k - suc n = omega arith in range_past (a + 1) n k xs (omega arith) ∙ ap (slice_get xs) e

-- the place lies in the run
pub number_here : (rs : List Run) (i : ℕ) (r : Run) (left : ℕ) → i < length rs → r ≡ get_or rs i r → left < r.to + 1 - r.from → slice_get (numbers_of (drop i rs)) left ≡ Some (r.from + left)
number_here rs i r left lt is few = ap (λ l. slice_get l left) (numbers_more rs i r lt is) ∙ range_get r.from (r.to + 1 - r.from) left (numbers_of (drop (i + 1) rs)) few

-- or behind it
pub number_behind : (rs : List Run) (i : ℕ) (r : Run) (left : ℕ) → i < length rs → r ≡ get_or rs i r → r.to + 1 - r.from ≤ left → slice_get (numbers_of (drop (i + 1) rs)) (left - (r.to + 1 - r.from)) ≡ slice_get (numbers_of (drop i rs)) left
number_behind rs i r left lt is le = sym (ap (λ l. slice_get l left) (numbers_more rs i r lt is) ∙ range_past r.from (r.to + 1 - r.from) left (numbers_of (drop (i + 1) rs)) le)

-- or behind all
pub number_none : (rs : List Run) (left : ℕ) → None ≡ slice_get (numbers_of (drop (length rs) rs)) left
number_none rs left = sym (ap (λ l. slice_get (numbers_of l) left) (drop-length rs))

fits_from : (low : ℕ) (rs : List Run) → AreRunsFrom low rs → (i : ℕ) (d : Run) → i < length rs → (get_or rs i d).to ≤ 999999
fits_from low [] h i d lt = absurd (omega arith)
fits_from low (r ∷ rs) h zero d lt = h.2
fits_from low (r ∷ rs) h (suc i) d lt = fits_from (r.to + 2) rs h.3 i d (omega arith)

pub fits : (rs : List Run) → AreRuns rs → (i : ℕ) (r : Run) → i < length rs → r ≡ get_or rs i r → r.to ≤ 999999
fits rs h i r lt is = let o = fits_from 1 rs h i r lt in rw (← is) at o
