-- The lines that tell which messages match.
use Rattle.std.specs.Prelude.{ℕ, List, [], ◌∷◌, ◌++◌, map, codes, decimal}

-- a line of this number
unfoldable pub number_line : ℕ → List ℕ
number_line n = decimal n ++ 10 ∷ []

-- where no message matches
abbrev pub zero_line : List ℕ
zero_line = codes "0" ++ 10 ∷ []

-- a line for each of these messages; one of zero where there are none
abbrev pub lines_for : List ℕ → List (List ℕ)
lines_for [] = zero_line ∷ []
lines_for (n ∷ ns) = map number_line (n ∷ ns)
