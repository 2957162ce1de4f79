-- How many numbers runs have, up to the end of each.
use Rattle.std.specs.Prelude.{◌≡◌, ℕ, zero, suc, ◌+◌, ◌-◌, List, [], ◌∷◌, slice_index_or}
use Rattle.mh_sequences.specs.declared.run.Run.{Run}

-- for each of the first runs: how many numbers stand before its end, besides those that stand before all
abbrev pub AreEnds : ℕ → List ℕ → List Run → Type 0
AreEnds passed [] runs = Unit {0}
AreEnds passed (e ∷ es) [] = ⊥
AreEnds passed (e ∷ es) (r ∷ rs) = (e ≡ passed + (r.to + 1 - r.from)) × AreEnds e es rs

-- how many stand before the run at a place
abbrev pub passed_at : List ℕ → ℕ → ℕ
passed_at ends zero = 0
passed_at ends (suc k) = slice_index_or ends k 0
