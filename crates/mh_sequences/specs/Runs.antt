-- Sets of message numbers, as runs of consecutive numbers.
use Rattle.std.specs.Prelude.{ℕ, ◌+◌, ◌-◌, ◌≤◌, ◌&&◌, ◌||◌, Bool, false, nat_le, List, [], ◌∷◌, ◌++◌, length, slice_get, unwrap_or}
use Rattle.std.specs.List.{range_with_len}
use Rattle.mh_sequences.specs.declared.run.Run.{Run}

-- the number lies in the run
abbrev pub inside : Run → ℕ → Bool
inside r n = nat_le r.from n && nat_le n r.to

-- it ends where it starts or later
abbrev pub IsRun : Run → Type 0
IsRun r = r.from ≤ r.to

-- the number lies in one of the runs
abbrev pub has : List Run → ℕ → Bool
has [] n = false
has (r ∷ rs) n = inside r n || has rs n

-- the runs ascend from this number on, each ends where it starts or later, and between two of them a number is left out
abbrev pub AreRunsFrom : ℕ → List Run → Type 0
AreRunsFrom low [] = Unit {0}
AreRunsFrom low (r ∷ rs) = (low ≤ r.from) × (r.from ≤ r.to) × (r.to ≤ 999999) × AreRunsFrom (r.to + 2) rs

-- the runs of a set of message numbers, as long as they can be
abbrev pub AreRuns : List Run → Type 0
AreRuns runs = AreRunsFrom 1 runs

-- the numbers of the runs, ascending
abbrev pub numbers_of : List Run → List ℕ
numbers_of [] = []
numbers_of (r ∷ rs) = range_with_len r.from (r.to + 1 - r.from) ++ numbers_of rs

-- the last number, or 0 where there is none
abbrev pub last_in : List Run → ℕ
last_in runs = unwrap_or (slice_get (numbers_of runs) (length (numbers_of runs) - 1)) 0

-- a set, and for how many more runs it has room
pub record Numbers : Type 0 where
  pub runs : List Run
  pub spare : ℕ

abbrev pub set_of : List Run → ℕ → Numbers
set_of runs spare = record { runs = runs; spare = spare }
