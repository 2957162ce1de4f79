-- The message numbers that a test takes, as runs that are as long as they can be.
use Rattle.std.specs.Prelude.{ℕ, zero, suc, ◌+◌, ◌==◌, Bool, List, [], ◌∷◌, if◌then◌else◌}
use Rattle.std.specs.List.{list_any}
use Rattle.mh_sequences.specs.declared.run.Run.{Run}

-- one number
abbrev pub run_of_one : ℕ → Run
run_of_one n = record { from = n; to = n }

-- a number in front of runs that stand behind it: it joins the first of them where it touches it
abbrev pub put_first : ℕ → List Run → List Run
put_first n [] = run_of_one n ∷ []
put_first n (r ∷ rs) = if n + 1 == r.from then record { from = n; to = r.to } ∷ rs else run_of_one n ∷ r ∷ rs

-- those of so many numbers, from this one on, that the test takes
unfoldable pub runs_among : (ℕ → Bool) → ℕ → ℕ → List Run
runs_among test zero n = []
runs_among test (suc count) n =
    if test n then put_first n (runs_among test count (n + 1)) else runs_among test count (n + 1)

-- those of all message numbers
unfoldable pub runs_of_all : (ℕ → Bool) → List Run
runs_of_all test = runs_among test 999999 1

-- these numbers as a set
abbrev pub set_among : List ℕ → List Run
set_among numbers = runs_of_all (λ n. list_any (λ m. m == n) numbers)
