-- Boundaries of multiparts.
use Rattle.std.specs.Prelude.{ℕ, codes, List, ◌++◌}
use Rattle.mh_base.specs.Numbers.{hex}

-- what the boundaries of a run begin with
abbrev pub mark_of : ℕ → List ℕ
mark_of run = codes "mh-" ++ (hex 32 run ++ codes "-")

-- the boundary of a run and a key
unfoldable pub boundary_of : ℕ → ℕ → List ℕ
boundary_of run key = mark_of run ++ hex 16 key
