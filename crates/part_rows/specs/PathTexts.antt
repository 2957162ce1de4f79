-- Paths of parts as texts. 46 is a dot.
use Rattle.std.specs.Prelude.{ℕ, List, [], ◌∷◌, ◌++◌, codes, decimal}
use Rattle.std.specs.List.{flat_map}

-- the numbers of a path, each with a dot before it
abbrev pub dotted : List ℕ → List ℕ
dotted path = flat_map (λ n. 46 ∷ decimal n) path

-- the numbers of a path with a dot between each two; a dash for the path of the root, which has none
abbrev pub path_text : List ℕ → List ℕ
path_text [] = codes "-"
path_text (n ∷ path) = decimal n ++ dotted path
