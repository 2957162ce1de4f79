-- Runs one after another.
use Rattle.std.specs.Prelude.{◌≡◌, ℕ, ◌+◌, ◌<◌, Option, Some, None, List, [], ◌∷◌, drop}
use Rattle.mh_sequences.specs.declared.run.Run.{Run}
use Rattle.mh_sequences.specs.Runs.{AreRuns}

-- this run stands at this place, before the rest
pub record IsRunAt (runs : List Run) (i : ℕ) (r : Run) : Type 0 where
  pub head : drop i runs ≡ r ∷ drop (i + 1) runs
  pub valid : AreRuns (r ∷ drop (i + 1) runs)
  pub few : i < 1000000

-- what stands at this place, if anything does
abbrev pub IsAt : List Run → ℕ → Option Run → Type 0
IsAt runs i None = drop i runs ≡ []
IsAt runs i (Some r) = IsRunAt runs i r
