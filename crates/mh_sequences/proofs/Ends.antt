-- Numbers of runs, counted one run after another.
use Rattle.std.proofs.Common.{◌≡◌, ℕ, zero, suc, ◌+◌, ◌-◌, ◌<◌, ◌≤◌, true, false, List, [], ◌∷◌, ◌++◌, length, get_or, take, drop, refl, sym, ◌∙◌, ap, subst, arith, append_assoc, length-append}
use Rattle.std.specs.Prelude.{nat_le, slice_get, Result, Ok, Err, is_ok, if◌then◌else◌}
use Rattle.std.proofs.Math.Seq.{take-add}
use Rattle.std.specs.List.{range_with_len}
use Rattle.std.specs.List.Sorted.{IsNonDecreasingBy, IsPartitionPoint}
use Rattle.std.proofs.lemmas.Bool.{leb-true}
use Rattle.std.proofs.lemmas.List.{take-append-drop}
use Rattle.std.proofs.lemmas.List.FromFn.{length-range_with_len}
use Rattle.mh_sequences.specs.declared.run.Run.{Run}
use Rattle.mh_sequences.specs.Counts.{AreEnds, passed_at}
use Rattle.mh_sequences.specs.Runs.{AreRuns, AreRunsFrom, numbers_of}
use Rattle.mh_sequences.proofs.Adding.{weaker}
use Rattle.mh_sequences.proofs.Counting.{few}

-- what was counted of the runs that stay
pub cut : (p : ℕ) (es : List ℕ) (old new : List Run) (k : ℕ) → AreEnds p es old → take k new ≡ take k old → AreEnds p (take k es) new
cut p es old new zero h e = tt
cut p [] old new (suc k) h e = tt
cut p (x ∷ es) [] new (suc k) h e = absurd h
cut p (x ∷ es) (o ∷ os) [] (suc k) h e = cc
cut p (x ∷ es) (o ∷ os) (n ∷ ns) (suc k) h e =
    let first : n ≡ o = cc in
    let rest : take k ns ≡ take k os = cc in
    (h.0 ∙ ap (λ r. p + (r.to + 1 - r.from)) (sym first), cut x es os ns k h.1 rest)

-- how many stand before the run at a place, where so many stand before all
abbrev passed_from : ℕ → List ℕ → ℕ → ℕ
passed_from p es zero = p
passed_from p es (suc k) = get_or es k 0

one_on : (p e : ℕ) (es : List ℕ) (k : ℕ) → passed_from p (e ∷ es) (suc k) ≡ passed_from e es k
one_on p e es zero = refl
one_on p e es (suc k) = refl

passed_is : (es : List ℕ) (k : ℕ) → passed_at es k ≡ passed_from 0 es k
passed_is es zero = refl
passed_is es (suc k) = refl

more_from : (p : ℕ) (es : List ℕ) (rs : List Run) (r : Run) → AreEnds p es rs → length es < length rs → r ≡ get_or rs (length es) r → AreEnds p (es ++ (passed_from p es (length es) + (r.to + 1 - r.from)) ∷ []) rs
more_from p [] [] r h lt is = absurd (omega arith)
more_from p [] (x ∷ rs) r h lt is = (ap (λ q. p + (q.to + 1 - q.from)) is, tt)
more_from p (e ∷ es) [] r h lt is = absurd h
more_from p (e ∷ es) (x ∷ rs) r h lt is = (h.0, subst (λ z. AreEnds e (es ++ (z + (r.to + 1 - r.from)) ∷ []) rs) (sym (one_on p e es (length es))) (more_from e es rs r h.1 (omega arith) is))

-- one more run is counted
pub more : (es : List ℕ) (rs : List Run) (r : Run) (end : ℕ) → AreEnds 0 es rs → length es < length rs → r ≡ get_or rs (length es) r → end ≡ passed_at es (length es) + (r.to + 1 - r.from) → AreEnds 0 (es ++ end ∷ []) rs
more es rs r end h lt is e = subst (λ z. AreEnds 0 (es ++ z ∷ []) rs) (sym (e ∙ ap (λ z. z + (r.to + 1 - r.from)) (passed_is es (length es)))) (more_from 0 es rs r h lt is)

-- it is counted where there was memory for it
pub pushed : {A E : Type 0} (es new : List ℕ) (rs : List Run) (r : Run) (end : ℕ) (result : Result A E) → AreEnds 0 es rs → length es < length rs → r ≡ get_or rs (length es) r → end ≡ passed_at es (length es) + (r.to + 1 - r.from) → new ≡ (if is_ok result then es ++ end ∷ [] else es) → AreEnds 0 new rs
pushed es new rs r end (Ok a) h lt is e put = subst (λ l. AreEnds 0 l rs) (sym put) (more es rs r end h lt is e)
pushed es new rs r end (Err x) h lt is e put = subst (λ l. AreEnds 0 l rs) (sym put) h

at_from : (p : ℕ) (es : List ℕ) (rs : List Run) (k : ℕ) → AreEnds p es rs → k ≤ length es → passed_from p es k ≡ p + length (numbers_of (take k rs))
at_from p es rs zero h le = omega arith
at_from p [] rs (suc k) h le = absurd (omega arith)
at_from p (e ∷ es) [] (suc k) h le = absurd h
at_from p (e ∷ es) (r ∷ rs) (suc k) h le =
    let on = one_on p e es k in
    let rest = at_from e es rs k h.1 (omega arith) in
    let here = h.0 in
    let all = length-append (range_with_len r.from (r.to + 1 - r.from)) (numbers_of (take k rs)) in
    let size = length-range_with_len r.from (r.to + 1 - r.from) in
    omega arith

-- how many numbers stand before a run
pub passed_by : (es : List ℕ) (rs : List Run) (k : ℕ) → AreEnds 0 es rs → k ≤ length es → passed_at es k ≡ length (numbers_of (take k rs))
passed_by es rs k h le = passed_is es k ∙ at_from 0 es rs k h le ∙ omega arith

pub within : (p : ℕ) (es : List ℕ) (rs : List Run) → AreEnds p es rs → length es ≤ length rs
within p [] rs h = omega arith
within p (e ∷ es) [] h = absurd h
within p (e ∷ es) (r ∷ rs) h = let rest = within e es rs h.1 in omega arith

above : (p : ℕ) (es : List ℕ) (rs : List Run) → AreEnds p es rs → (k d : ℕ) → k < length es → p ≤ get_or es k d
above p [] rs h k d lt = absurd (omega arith)
above p (e ∷ es) [] h k d lt = absurd h
above p (e ∷ es) (r ∷ rs) h zero d lt = let s = h.0 in omega arith
above p (e ∷ es) (r ∷ rs) h (suc k) d lt = let s = h.0 in let rest = above e es rs h.1 k d (omega arith) in omega arith

-- what was passed is at most what it was asked for
pub passed_small : (es : List ℕ) (i index : ℕ) → i ≤ length es → IsPartitionPoint (λ y. nat_le y index ≡ true) (λ y. nat_le y index ≡ false) es i → passed_at es i ≤ index
passed_small es zero index le point = omega arith
passed_small es (suc k) index le point = leb-true (get_or es k 0) index (point.0 k 0 (omega arith) (omega arith))

-- more and more are counted
pub rise : (p : ℕ) (es : List ℕ) (rs : List Run) → AreEnds p es rs → IsNonDecreasingBy (λ e. e) es
rise p [] rs h i j d le lt = absurd (omega arith)
rise p (e ∷ es) [] h i j d le lt = absurd h
rise p (e ∷ es) (r ∷ rs) h zero zero d le lt = omega arith
rise p (e ∷ es) (r ∷ rs) h zero (suc j) d le lt = above e es rs h.1 j d (omega arith)
rise p (e ∷ es) (r ∷ rs) h (suc i) zero d le lt = absurd (omega arith)
rise p (e ∷ es) (r ∷ rs) h (suc i) (suc j) d le lt = rise e es rs h.1 i j d (omega arith) (omega arith)

numbers_append : (rs ss : List Run) → numbers_of (rs ++ ss) ≡ numbers_of rs ++ numbers_of ss
numbers_append [] ss = refl
numbers_append (r ∷ rs) ss = ap (λ l. range_with_len r.from (r.to + 1 - r.from) ++ l) (numbers_append rs ss) ∙ sym (append_assoc (range_with_len r.from (r.to + 1 - r.from)) (numbers_of rs) (numbers_of ss))

-- the numbers before a place, and those from it on
pub numbers_parts : (rs : List Run) (k : ℕ) → numbers_of rs ≡ numbers_of (take k rs) ++ numbers_of (drop k rs)
numbers_parts rs k = ap numbers_of (sym (take-append-drop k rs)) ∙ numbers_append (take k rs) (drop k rs)

-- the numbers before a place, in two parts
pub numbers_between : (rs : List Run) (k place : ℕ) → k ≤ place → length (numbers_of (take place rs)) ≡ length (numbers_of (take k rs)) + length (numbers_of (take (place - k) (drop k rs)))
numbers_between rs k place le =
    let sum : place ≡ k + (place - k) = omega arith in
    ap (λ j. length (numbers_of (take j rs))) sum
    ∙ ap (λ l. length (numbers_of l)) (take-add k (place - k) rs)
    ∙ ap length (numbers_append (take k rs) (take (place - k) (drop k rs)))
    ∙ length-append (numbers_of (take k rs)) (numbers_of (take (place - k) (drop k rs)))

taken_from : (low : ℕ) (rs : List Run) (k : ℕ) → AreRunsFrom low rs → AreRunsFrom low (take k rs)
taken_from low rs zero h = tt
taken_from low [] (suc k) h = tt
taken_from low (r ∷ rs) (suc k) h = (h.0, h.1, h.2, taken_from (r.to + 2) rs k h.3)

dropped_from : (low : ℕ) (rs : List Run) (k : ℕ) → AreRunsFrom low rs → AreRunsFrom low (drop k rs)
dropped_from low rs zero h = h
dropped_from low [] (suc k) h = tt
dropped_from low (r ∷ rs) (suc k) h = weaker low (r.to + 2) (drop k rs) (omega arith) (dropped_from (r.to + 2) rs k h.3)

pub runs_taken : (rs : List Run) (k : ℕ) → AreRuns rs → AreRuns (take k rs)
runs_taken rs k h = taken_from 1 rs k h

pub runs_dropped : (rs : List Run) (k : ℕ) → AreRuns rs → AreRuns (drop k rs)
runs_dropped rs k h = dropped_from 1 rs k h

-- a place behind some numbers is one among the others
pub behind : (xs ys : List ℕ) (k n : ℕ) → n ≡ length xs → n ≤ k → slice_get ys (k - n) ≡ slice_get (xs ++ ys) k
behind [] ys k n e le = let same : k - n ≡ k = omega arith in ap (slice_get ys) same
behind (x ∷ xs) ys zero n e le = absurd (omega arith)
behind (x ∷ xs) ys (suc k) n e le = let same : suc k - n ≡ k - (n - 1) = omega arith in ap (slice_get ys) same ∙ behind xs ys k (n - 1) (omega arith) (omega arith)

-- fewer than a million numbers were passed
pub passed_few : (es : List ℕ) (rs : List Run) (k : ℕ) → AreRuns rs → AreEnds 0 es rs → k ≤ length es → passed_at es k ≤ 999999
passed_few es rs k runs h le =
    let passed = passed_by es rs k h le in
    let all = few (take k rs) (runs_taken rs k runs) in
    omega (arith, passed, all)
