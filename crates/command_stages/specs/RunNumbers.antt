-- The numbers of one run.
use Rattle.std.specs.Prelude.{◌≡◌, ◌++◌, ◌+◌, ◌-◌, ℕ, List, Option, None, Some}
use Rattle.std.specs.List.{range_with_len}
use Rattle.mh_sequences.specs.declared.run.Run.{Run}

-- the run's numbers stand behind the others, if there is a run
abbrev pub AreRunNumbers : Option Run → List ℕ → List ℕ → Type 0
AreRunNumbers None old new = new ≡ old
AreRunNumbers (Some r) old new = new ≡ old ++ range_with_len r.from (r.to + 1 - r.from)
