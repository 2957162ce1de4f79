-- Text on one line, with single spaces.
use Rattle.std.specs.Prelude.{ℕ, ◌&&◌, ◌||◌, nat_le, Bool, List, [], ◌∷◌, ◌++◌}
use Rattle.mh_base.specs.Characters.{words}

-- a space or a control character: up to 32, or from 127 to 159
abbrev pub is_gap : ℕ → Bool
is_gap c = nat_le c 32 || (nat_le 127 c && nat_le c 159)

-- words behind another, each with a space before it
abbrev pub spaced : List (List ℕ) → List ℕ
spaced [] = []
spaced (word ∷ words) = 32 ∷ word ++ spaced words

-- words with a space between each two
abbrev pub joined : List (List ℕ) → List ℕ
joined [] = []
joined (word ∷ words) = word ++ spaced words

-- the text with one space for each run of spaces and control characters, and none at its ends
abbrev pub stripped : List ℕ → List ℕ
stripped text = joined (words is_gap text)
