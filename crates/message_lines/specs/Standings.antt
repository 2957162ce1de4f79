-- How messages stand in their folder.
use Rattle.std.specs.Prelude.{ℕ, ◌==◌, Bool, false, List, Option, None, Some}
use Rattle.std.specs.List.{list_any}

-- the current message is this one
abbrev pub is_at : Option ℕ → ℕ → Bool
is_at None n = false
is_at (Some cur) n = cur == n

-- one of these sequences has it
abbrev pub is_marked_in : (List ℕ → ℕ → Bool) → List (List ℕ) → ℕ → Bool
is_marked_in has names n = list_any (λ name. has name n) names
