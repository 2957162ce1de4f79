-- Lines that may bound parts, by their places.
use Rattle.std.specs.Prelude.{◌≡◌, ◌⊎◌, ℕ, ◌+◌, ◌≤◌, Bool, false, bytes_eq, nat_lt, List, [], ◌∷◌, length, take, drop}
use Rattle.std.specs.List.{prefix_len}
use Rattle.mime_tree.specs.declared.mark.Mark.TheVariants.{Other}
use Rattle.mime_tree.specs.BoundaryLines.{hyphens, mark_of}

-- the line begins with two hyphens, as each line does that bounds a part
abbrev pub is_dashed : List ℕ → Bool
is_dashed line = bytes_eq (take 2 line) hyphens

-- the line bounds no part
abbrev pub IsPlain : List ℕ → Type 0
IsPlain line = is_dashed line ≡ false

-- the line bounds no part of the multipart of this boundary
abbrev pub IsOther : List ℕ → List ℕ → Type 0
IsOther boundary line = mark_of boundary line ≡ Other

-- no place lies before this one
abbrev pub AllFrom : ℕ → List ℕ → Type 0
AllFrom place [] = Unit {0}
AllFrom place (m ∷ ms) = (place ≤ m) × AllFrom place ms

-- of these lines, of which the first begins at this place, each is free or its place is the next of the marks; behind
-- the lines there may be more marks
abbrev pub Marks : (List ℕ → Type 0) → ℕ → List (List ℕ) → List ℕ → Type 0
Marks IsFree place [] marks = AllFrom place marks
Marks IsFree place (line ∷ lines) marks =
    (IsFree line × Marks IsFree (place + length line) lines marks)
    ⊎ ((more : List ℕ) × (marks ≡ place ∷ more) × Marks IsFree (place + length line) lines more)

-- the marks from this place on
abbrev pub marks_from : ℕ → List ℕ → List ℕ
marks_from place marks = drop (prefix_len (λ m. nat_lt m place) marks) marks
