-- One run put among runs, and one number taken out.
use Rattle.std.specs.Prelude.{ℕ, ◌+◌, ◌-◌, min, max, nat_lt, List, [], ◌∷◌, ◌++◌, if◌then◌else◌}
use Rattle.mh_sequences.specs.declared.run.Run.{Run}

-- the run that two runs and what lies between them make
abbrev pub hull : Run → Run → Run
hull a r = record { from = min a.from r.from; to = max a.to r.to }

-- the run with all that it reaches, before what it doesn't
abbrev pub grown : Run → List Run → List Run
grown a [] = a ∷ []
grown a (r ∷ rs) = if nat_lt (a.to + 1) r.from then a ∷ r ∷ rs else grown (hull a r) rs

-- the run among runs
abbrev pub added : Run → List Run → List Run
added a [] = a ∷ []
added a (r ∷ rs) = if nat_lt r.to (a.from - 1) then r ∷ added a rs else grown a (r ∷ rs)

-- what is left of a run before the number, and behind it
abbrev pub front : Run → ℕ → List Run
front r n = if nat_lt r.from n then record { from = r.from; to = n - 1 } ∷ [] else []

abbrev pub back : Run → ℕ → List Run
back r n = if nat_lt n r.to then record { from = n + 1; to = r.to } ∷ [] else []

-- the runs without the number
abbrev pub removed : ℕ → List Run → List Run
removed n [] = []
removed n (r ∷ rs) =
    if nat_lt r.to n then r ∷ removed n rs else (if nat_lt n r.from then r ∷ rs else front r n ++ (back r n ++ rs))
