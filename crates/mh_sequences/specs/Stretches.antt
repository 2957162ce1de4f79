-- Stretches of numbers that a set has, or has not.
use Rattle.std.specs.Prelude.{◌≡◌, ℕ, ◌-◌, ◌≤◌, nat_lt, List, if◌then◌else◌}
use Rattle.mh_sequences.specs.declared.run.Run.{Run}
use Rattle.mh_sequences.specs.declared.stretch.Stretch.{Stretch}
use Rattle.mh_sequences.specs.declared.join.Join.{Join}
use Rattle.mh_sequences.specs.Joins.{joins}
use Rattle.mh_sequences.specs.Runs.{has}

-- up to which number all is as at this one, which stands in the run or before it
abbrev pub stretch_end : Run → ℕ → ℕ
stretch_end r p = if nat_lt p r.from then r.from - 1 else r.to

-- from this number to the end of the stretch the set has all or none
pub record IsStretch (runs : List Run) (p : ℕ) (s : Stretch) : Type 0 where
  pub some : p ≤ s.to
  pub within : s.to ≤ 999999
  pub same : (n : ℕ) → p ≤ n → n ≤ s.to → has runs n ≡ s.all

-- from this number to the end of the stretch two sets joined have all or none
pub record IsJoinedStretch (how : Join) (first second : List Run) (p : ℕ) (s : Stretch) : Type 0 where
  pub some : p ≤ s.to
  pub within : s.to ≤ 999999
  pub same : (n : ℕ) → p ≤ n → n ≤ s.to → joins how (has first n) (has second n) ≡ s.all
