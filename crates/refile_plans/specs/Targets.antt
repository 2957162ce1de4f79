-- How the folders are gathered that words name.
use Rattle.std.specs.Prelude.{◌++◌, ◌||◌, ◌∷◌, [], ℕ, Bool, true, false, bytes_eq, List}
use Rattle.std.specs.List.{list_any}

-- the name stands among these
abbrev pub is_named : List ℕ → List (List ℕ) → Bool
is_named name names = list_any (λ other. bytes_eq other name) names

abbrev pub with_name_unless : Bool → List (List ℕ) → List ℕ → List (List ℕ)
with_name_unless true names name = names
with_name_unless false names name = names ++ name ∷ []

-- the name comes last, where it is neither the source's nor there already
abbrev pub with_target : List ℕ → List (List ℕ) → List ℕ → List (List ℕ)
with_target source names name = with_name_unless (bytes_eq name source || is_named name names) names name
