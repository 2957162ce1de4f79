-- Sets of numbers have one list of runs.
use Rattle.std.proofs.Common.{◌≡◌, ◌≤◌, ℕ, Bool, List, sym, ◌∙◌, inl, inr}
use Rattle.std.specs.Prelude.{IfOk, Result, Ok, Err}
use Rattle.mh_sequences.specs.Runs.{AreRuns, Numbers, has, numbers_of}
use Rattle.msg_ranges.proofs.Rising.{lists, lists_numbers}
use Rattle.mh_sequences.specs.declared.run.Run.{Run}
use Rattle.mh_sequences.proofs.Same.{same_runs}
use Rattle.sequence_commits.specs.RunsOfAll.{runs_of_all, set_among}
use Rattle.sequence_commits.proofs.RunTests.{all_has, all_runs, none_outside}
use Rattle.opening_plans.proofs.ExistingNumbers.{in_range_or}

pub runs_are : (test : ℕ → Bool) (runs : List Run) → AreRuns runs → ((n : ℕ) → 1 ≤ n → n ≤ 999999 → has runs n ≡ test n) → runs ≡ runs_of_all test
runs_are test runs valid all = same_runs runs (runs_of_all test) valid (all_runs test) same
  where
    same : (n : ℕ) → has runs n ≡ has (runs_of_all test) n
    same n = elim (in_range_or n) [
      | inl l ↦ all n l.0 l.1 ∙ sym (all_has test n l.0 l.1)
      | inr o ↦ none_outside runs n valid o ∙ sym (none_outside (runs_of_all test) n (all_runs test) o)
    ]

-- a set that was made by such a test
pub made_by : (test : ℕ → Bool) {E : Type 0} (made : Result Numbers E) → IfOk made (λ s. (n : ℕ) → has s.runs n ≡ test n) → IfOk made (λ s. AreRuns s.runs) → IfOk made (λ s. s.runs ≡ runs_of_all test)
made_by test (Ok s) all valid = runs_are test s.runs valid (λ n low high. all n)
made_by test (Err e) all valid = tt

-- by way of another set
pub made_from : (test : ℕ → Bool) (pile : List Run) {E : Type 0} (made : Result Numbers E) → ((n : ℕ) → has pile n ≡ test n) → IfOk made (λ s. (n : ℕ) → has s.runs n ≡ has pile n) → IfOk made (λ s. AreRuns s.runs) → IfOk made (λ s. s.runs ≡ runs_of_all test)
made_from test pile (Ok s) is all valid = runs_are test s.runs valid (λ n low high. all n ∙ is n)
made_from test pile (Err e) is all valid = tt

-- a set is that of its numbers
pub numbers_set : (runs : List Run) → AreRuns runs → runs ≡ set_among (numbers_of runs)
numbers_set runs valid = runs_are (lists (numbers_of runs)) runs valid (λ n low high. sym (lists_numbers runs n))
