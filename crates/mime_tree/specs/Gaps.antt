-- Blanks and comments between the words of a field (RFC 5322, section 3.2.2), which stand for nothing.
use Rattle.std.specs.Prelude.{ℕ, ◌+◌, ◌-◌, ◌==◌, List, [], ◌∷◌, Option, Some, None, if◌then◌else◌}
use Rattle.mime_tree.specs.declared.gap.Nesting.{Nesting}
use Rattle.mime_tree.specs.declared.gap.Nesting.TheVariants.{Between, Inside, Protected}
use Rattle.mh_base.specs.Characters.{is_blank}

-- behind a parenthesis that closes one of so many comments
abbrev pub closed_of : ℕ → Nesting
closed_of depth = if depth == 1 then Between else Inside (depth - 1)

-- the place behind this byte: between words or in so many comments, one in the other, where a backslash protects the
-- next byte; none where a word begins
abbrev pub place_behind : Nesting → ℕ → Option Nesting
place_behind Between c = if c == 40 then Some (Inside 1) else (if is_blank c then Some Between else None)
place_behind (Inside depth) c =
    if c == 92 then Some (Protected depth)
    else (if c == 40 then Some (Inside (depth + 1))
    else (if c == 41 then Some (closed_of depth) else Some (Inside depth)))
place_behind (Protected depth) c = Some (Inside depth)

-- the text ends here
abbrev pub at_end : Nesting → Option (List ℕ)
at_end Between = Some []
at_end other = None

abbrev pub begun : List ℕ → Option Nesting → (Nesting → Option (List ℕ)) → Option (List ℕ)
begun text None more = Some text
begun text (Some place) more = more place

-- what follows blanks and comments from this place on; nothing does where a comment isn't closed
unfoldable pub behind_gap_at : Nesting → List ℕ → Option (List ℕ)
behind_gap_at place [] = at_end place
behind_gap_at place (c ∷ rest) = begun (c ∷ rest) (place_behind place c) (λ next. behind_gap_at next rest)

-- what follows the blanks and comments at the front
abbrev pub behind_gap : List ℕ → Option (List ℕ)
behind_gap text = behind_gap_at Between text
