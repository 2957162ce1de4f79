-- Which parts of a message rows tell of, which are stored, and which of the wanted ones are missing.
use Rattle.std.specs.Prelude.{ℕ, Bool, true, not, List, [], ◌∷◌, Option, bytes_eq}
use Rattle.std.specs.List.{filter, find, list_any}
use Rattle.part_rows.specs.PartViews.{PartView}

-- the part has this path
abbrev pub has_path : List ℕ → PartView → Bool
has_path path part = bytes_eq path part.path

-- one of these paths is the part's
abbrev pub is_named : List (List ℕ) → PartView → Bool
is_named paths part = list_any (λ path. has_path path part) paths

-- where paths are wanted, the parts that they name; else all
abbrev pub is_listed : List (List ℕ) → PartView → Bool
is_listed [] part = true
is_listed (path ∷ paths) part = is_named (path ∷ paths) part

-- where paths are wanted, the parts that they name; else the leaves
abbrev pub is_stored : List (List ℕ) → PartView → Bool
is_stored [] part = part.is_leaf
is_stored (path ∷ paths) part = is_named (path ∷ paths) part

-- the parts of which rows tell, each once, in the order of the tree
abbrev pub listed : List (List ℕ) → List PartView → List PartView
listed wanted parts = filter (is_listed wanted) parts

-- the parts that are stored, each once, in the order of the tree
abbrev pub stored : List (List ℕ) → List PartView → List PartView
stored wanted parts = filter (is_stored wanted) parts

-- no part has this path
abbrev pub is_missing : List PartView → List ℕ → Bool
is_missing parts path = not (list_any (has_path path) parts)

-- the first of the wanted paths that no part has
abbrev pub first_missing : List (List ℕ) → List PartView → Option (List ℕ)
first_missing wanted parts = find (is_missing parts) wanted
