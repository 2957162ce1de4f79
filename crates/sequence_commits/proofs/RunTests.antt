-- The runs of all numbers that a test takes.
use Rattle.std.proofs.Common.{◌≡◌, ℕ, zero, suc, ◌+◌, ◌<◌, ◌≤◌, Bool, true, false, List, [], ◌∷◌, sym, ◌∙◌, ap, subst, arith, ⊎_elim}
use Rattle.std.specs.Prelude.{◌||◌, ◌&&◌, ◌==◌, nat_le}
use Rattle.std.proofs.lemmas.Bool.{eqb-true, eqb-false, cases_eq}
use Rattle.std.proofs.lemmas.Bool.Decides.{nat_tests}
use Rattle.mh_sequences.specs.declared.run.Run.{Run}
use Rattle.mh_sequences.specs.Runs.{AreRuns, AreRunsFrom, has, inside}
use Rattle.mh_sequences.proofs.Adding.{weaker}
use Rattle.mh_sequences.proofs.Bools.{choose}
use Rattle.mh_sequences.proofs.Joining.{above_from}
use Rattle.mh_sequences.proofs.Removing.{has_below}
use Rattle.sequence_commits.specs.RunsOfAll.{run_of_one, put_first, runs_among, runs_of_all}

put_runs : (n : ℕ) (rs : List Run) → n ≤ 999999 → AreRunsFrom (n + 1) rs → AreRunsFrom n (put_first n rs)
put_runs n [] h k = (omega arith, omega arith, omega arith, tt)
put_runs n (r ∷ rs) h k =
    choose (AreRunsFrom n) (n + 1 == r.from) (record { from = n; to = r.to } ∷ rs) (run_of_one n ∷ r ∷ rs)
    (λ e. let at : n + 1 ≡ r.from = eqb-true (n + 1) r.from e in (omega arith, omega arith, k.2, k.3))
    (λ e. let off : n + 1 ≡ r.from → ⊥ = eqb-false (n + 1) r.from e in (omega arith, omega arith, omega arith, (omega arith, k.1, k.2, k.3)))

among_runs : (test : ℕ → Bool) (count n : ℕ) → n + count ≤ 1000000 → AreRunsFrom n (runs_among test count n)
unfolding runs_among
among_runs test zero n h = tt
among_runs test (suc count) n h =
    let rest = among_runs test count (n + 1) (omega arith) in
    choose (AreRunsFrom n) (test n) (put_first n (runs_among test count (n + 1))) (runs_among test count (n + 1))
    (λ e. put_runs n (runs_among test count (n + 1)) (omega arith) rest)
    (λ e. weaker n (n + 1) (runs_among test count (n + 1)) (omega arith) rest)

put_itself : (n : ℕ) (rs : List Run) → AreRunsFrom (n + 1) rs → has (put_first n rs) n ≡ true
put_itself n [] k = grind (arith, nat_tests)
put_itself n (r ∷ rs) k =
    choose (λ l. has l n ≡ true) (n + 1 == r.from) (record { from = n; to = r.to } ∷ rs) (run_of_one n ∷ r ∷ rs)
    (λ e. grind (arith, nat_tests))
    (λ e. grind (arith, nat_tests))

put_others : (n m : ℕ) (rs : List Run) → n < m → has (put_first n rs) m ≡ has rs m
put_others n m [] lt = grind (arith, nat_tests)
put_others n m (r ∷ rs) lt =
    choose (λ l. has l m ≡ has (r ∷ rs) m) (n + 1 == r.from) (record { from = n; to = r.to } ∷ rs) (run_of_one n ∷ r ∷ rs)
    (λ e. let at : n + 1 ≡ r.from = eqb-true (n + 1) r.from e in
    let same : nat_le n m && nat_le m r.to ≡ inside r m = grind (arith, nat_tests) in ap (λ b. b || has rs m) same)
    (λ e. let none : inside (run_of_one n) m ≡ false = grind (arith, nat_tests) in ap (λ b. b || has (r ∷ rs) m) none)

among_has : (test : ℕ → Bool) (count n m : ℕ) → n + count ≤ 1000000 → n ≤ m → m < n + count → has (runs_among test count n) m ≡ test m
unfolding runs_among
among_has test zero n m h le lt = absurd (omega arith)
among_has test (suc count) n m h le lt =
    let rest = among_runs test count (n + 1) (omega arith) in
    choose (λ l. has l m ≡ test m) (test n) (put_first n (runs_among test count (n + 1))) (runs_among test count (n + 1))
    (λ e. ⊎_elim
    (λ at. subst (λ k. has (put_first n (runs_among test count (n + 1))) k ≡ test k) at (put_itself n (runs_among test count (n + 1)) rest ∙ sym e))
    (λ off. put_others n m (runs_among test count (n + 1)) (omega arith) ∙ among_has test count (n + 1) m (omega arith) (omega arith) (omega arith))
    (cases_eq n m))
    (λ e. ⊎_elim
    (λ at. subst (λ k. has (runs_among test count (n + 1)) k ≡ test k) at (has_below (n + 1) (runs_among test count (n + 1)) rest n (omega arith) ∙ sym e))
    (λ off. among_has test count (n + 1) m (omega arith) (omega arith) (omega arith))
    (cases_eq n m))

-- they are the runs of a set
pub all_runs : (test : ℕ → Bool) → AreRuns (runs_of_all test)
unfolding runs_of_all
all_runs test = among_runs test 999999 1 (omega arith)

-- with just the message numbers that the test takes
pub all_has : (test : ℕ → Bool) (n : ℕ) → 1 ≤ n → n ≤ 999999 → has (runs_of_all test) n ≡ test n
unfolding runs_of_all
all_has test n le high = among_has test 999999 1 n (omega arith) le (omega arith)

-- no set has another number
pub none_outside : (runs : List Run) (n : ℕ) → AreRuns runs → (1 ≤ n → n ≤ 999999 → ⊥) → has runs n ≡ false
none_outside runs n h out = by n out
  where
    by : (m : ℕ) → (1 ≤ m → m ≤ 999999 → ⊥) → has runs m ≡ false
    by zero off = has_below 1 runs h zero (omega arith)
    by (suc m) off = above_from 1 runs h (suc m) (above (suc m) (omega arith) off)
      where
        above : (k : ℕ) → 1 ≤ k → (1 ≤ k → k ≤ 999999 → ⊥) → 999999 < k
        above k le never = omega (arith, never le)
