-- How many numbers are at most one.
use Rattle.std.proofs.Common.{◌≡◌, ℕ, zero, suc, ◌+◌, ◌-◌, ◌<◌, ◌≤◌, List, [], ◌∷◌, length, take, drop, refl, ◌∙◌, ap, arith, ⊎_elim, min, length-append}
use Rattle.std.specs.Prelude.{nat_le, nat_lt}
use Rattle.std.specs.List.{prefix_len, range_with_len}
use Rattle.std.proofs.lemmas.Bool.{cases_Bool, cases_lt, le-leb, lt-leb, ltb-true, cond-true, cond-false}
use Rattle.std.proofs.lemmas.List.Elements.{filter-append}
use Rattle.std.proofs.lemmas.List.FromFn.{length-range_with_len}
use Rattle.std.proofs.lemmas.List.Sums.{length-filter, count_by-le-length}
use Rattle.mh_sequences.specs.declared.run.Run.{Run}
use Rattle.mh_sequences.specs.Runs.{AreRuns, numbers_of}
use Rattle.mh_sequences.proofs.Counting.{few}
use Rattle.msg_ranges.specs.Runs.{IsRunAt}
use Rattle.msg_ranges.specs.Selection.{up_to}
use Rattle.msg_ranges.proofs.Rising.{rise_runs}
use Rattle.msg_ranges.proofs.Spans.{none_up_to}

count_range : (to a k : ℕ) → length (up_to to (range_with_len a k)) ≡ min k (to + 1 - a)
count_range to a zero = omega arith
count_range to a (suc k) = ⊎_elim
    (λ lt. ap length (cond-false (nat_le a to) (a ∷ up_to to (range_with_len (a + 1) k)) (up_to to (range_with_len (a + 1) k)) (lt-leb a to lt)) ∙ count_range to (a + 1) k ∙ omega arith)
    (λ le. ap length (cond-true (nat_le a to) (a ∷ up_to to (range_with_len (a + 1) k)) (up_to to (range_with_len (a + 1) k)) (le-leb a to le)) ∙ ap suc (count_range to (a + 1) k) ∙ omega arith)
    (cases_lt to a)

-- all that is at most a number, by its parts
pub record IsCounted (runs : List Run) (to i count : ℕ) : Type 0 where
  pub same : count + length (up_to to (numbers_of (drop i runs))) ≡ length (up_to to (numbers_of runs))

pub few_up_to : (runs : List Run) (to : ℕ) → AreRuns runs → length (up_to to (numbers_of runs)) ≤ 999999
few_up_to runs to h =
    let all = few runs h in
    let part = count_by-le-length (λ x. nat_le x to) (numbers_of runs) in
    let same = length-filter (λ x. nat_le x to) (numbers_of runs) in
    omega arith

pub few_counted : (runs : List Run) (to i count : ℕ) → AreRuns runs → IsCounted runs to i count → count ≤ 999999
few_counted runs to i count h is = let all = few_up_to runs to h in let same = is.same in omega arith

before_place : (runs : List Run) (to : ℕ) → length (numbers_of (take (prefix_len (λ r. nat_lt r.to to) runs) runs)) + length (up_to to (numbers_of (drop (prefix_len (λ r. nat_lt r.to to) runs) runs))) ≡ length (up_to to (numbers_of runs))
before_place [] to = refl
before_place (r ∷ rs) to = ⊎_elim
    (λ e. let on : 1 + prefix_len (λ s. nat_lt s.to to) rs ≡ suc (prefix_len (λ s. nat_lt s.to to) rs) = omega arith in
    rw e (rw on (one_before r rs to (prefix_len (λ s. nat_lt s.to to) rs) (ltb-true r.to to e) (before_place rs to))))
    (λ e. rw e (none_first (length (up_to to (numbers_of (r ∷ rs))))))
    (cases_Bool (nat_lt r.to to))
  where
    none_first : (n : ℕ) → 0 + n ≡ n
    none_first n = omega arith

    one_before : (r : Run) (rs : List Run) (to k : ℕ) → r.to < to → length (numbers_of (take k rs)) + length (up_to to (numbers_of (drop k rs))) ≡ length (up_to to (numbers_of rs)) → length (numbers_of (r ∷ take k rs)) + length (up_to to (numbers_of (drop k rs))) ≡ length (up_to to (numbers_of (r ∷ rs)))
    one_before r rs to k lt rest =
        let here = length-append (range_with_len r.from (r.to + 1 - r.from)) (numbers_of (take k rs)) in
        let size = length-range_with_len r.from (r.to + 1 - r.from) in
        let all : length (up_to to (numbers_of (r ∷ rs))) ≡ min (r.to + 1 - r.from) (to + 1 - r.from) + length (up_to to (numbers_of rs)) =
        ap length (filter-append (λ x. nat_le x to) (range_with_len r.from (r.to + 1 - r.from)) (numbers_of rs))
        ∙ length-append (up_to to (range_with_len r.from (r.to + 1 - r.from))) (up_to to (numbers_of rs))
        ∙ ap (λ z. z + length (up_to to (numbers_of rs))) (count_range to r.from (r.to + 1 - r.from)) in
        omega arith

-- all numbers of the runs that end before a number are at most it
pub counted_first : (runs : List Run) (to i count : ℕ) → i ≡ prefix_len (λ r. nat_lt r.to to) runs → count ≡ length (numbers_of (take i runs)) → IsCounted runs to i count
counted_first runs to i count at is = record { same = ap (λ z. z + length (up_to to (numbers_of (drop i runs)))) is ∙ ap (λ k. length (numbers_of (take k runs)) + length (up_to to (numbers_of (drop k runs)))) at ∙ before_place runs to }

-- no number of the rest is at most it
pub counted_before : (runs : List Run) (to i count : ℕ) (r : Run) → IsRunAt runs i r → IsCounted runs to i count → to < r.from → count ≡ length (up_to to (numbers_of runs))
counted_before runs to i count r a is lt =
    let none : up_to to (numbers_of (drop i runs)) ≡ [] = ap (λ l. up_to to (numbers_of l)) a.head ∙ none_up_to to r.from (numbers_of (r ∷ drop (i + 1) runs)) (rise_runs r.from (r ∷ drop (i + 1) runs) (omega arith, a.valid.1, a.valid.2, a.valid.3)) lt in
    let size : length (up_to to (numbers_of (drop i runs))) ≡ 0 = ap length none in
    let same = is.same in
    omega arith

pub counted_end : (runs : List Run) (to i count : ℕ) → IsCounted runs to i count → drop i runs ≡ [] → count ≡ length (up_to to (numbers_of runs))
counted_end runs to i count is e =
    let size : length (up_to to (numbers_of (drop i runs))) ≡ 0 = ap (λ l. length (up_to to (numbers_of l))) e in
    let same = is.same in
    omega arith

pub counted_more : (runs : List Run) (to i count more : ℕ) (r : Run) → IsRunAt runs i r → IsCounted runs to i count → r.from ≤ to → more ≡ min to r.to - r.from + 1 → IsCounted runs to (i + 1) (count + more)
counted_more runs to i count more r a is le size =
    let k : ℕ = r.to + 1 - r.from in
    let cut : length (up_to to (numbers_of (drop i runs))) ≡ min k (to + 1 - r.from) + length (up_to to (numbers_of (drop (i + 1) runs))) =
    ap (λ l. length (up_to to (numbers_of l))) a.head
    ∙ ap length (filter-append (λ x. nat_le x to) (range_with_len r.from k) (numbers_of (drop (i + 1) runs)))
    ∙ length-append (up_to to (range_with_len r.from k)) (up_to to (numbers_of (drop (i + 1) runs)))
    ∙ ap (λ z. z + length (up_to to (numbers_of (drop (i + 1) runs)))) (count_range to r.from k) in
    let same = is.same in
    let order = a.valid.1 in
    record { same = omega arith }
