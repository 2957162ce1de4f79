-- One line of a text, character by character.
use Rattle.std.specs.Prelude.{ℕ, Bool, true, false, List, [], ◌∷◌, ◌++◌, if◌then◌else◌}
use Rattle.mail_text.specs.declared.stripping.Spot.{Spot}
use Rattle.mail_text.specs.declared.stripping.Spot.TheVariants.{Front, Word, Gap}
use Rattle.mail_text.specs.Stripping.{is_gap}

-- whether a space goes before a word's character here
abbrev pub has_space : Spot → Bool
has_space Front = false
has_space Word = false
has_space Gap = true

-- the spot behind a gap
abbrev pub gap_behind : Spot → Spot
gap_behind Front = Front
gap_behind Word = Gap
gap_behind Gap = Gap

abbrev pub spot_behind : Spot → ℕ → Spot
spot_behind spot c = if is_gap c then gap_behind spot else Word

-- what the line has of a character at this spot
abbrev pub written : Spot → ℕ → List ℕ
written spot c = if is_gap c then [] else (if has_space spot then 32 ∷ c ∷ [] else c ∷ [])

-- what the line has of a text that stands at this spot
unfoldable pub line_from : Spot → List ℕ → List ℕ
line_from spot [] = []
line_from spot (c ∷ rest) = written spot c ++ line_from (spot_behind spot c) rest

-- the spot behind a text
unfoldable pub spot_from : Spot → List ℕ → Spot
spot_from spot [] = spot
spot_from spot (c ∷ rest) = spot_from (spot_behind spot c) rest
