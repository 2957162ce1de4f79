-- Lines of a multipart's body, and those that bound its parts (RFC 2046, section 5.1.1).
use Rattle.std.specs.Prelude.{ℕ, ◌+◌, ◌==◌, Bool, false, bytes_eq, List, [], ◌∷◌, length, take, drop, Option, Some, None, option_and_then, if◌then◌else◌}
use Rattle.std.specs.List.{list_all}
use Rattle.mail_headers.specs.Lines.{without_end}
use Rattle.mime_tree.specs.declared.mark.Mark.{Mark}
use Rattle.mime_tree.specs.declared.mark.Mark.TheVariants.{Boundary, Closing, Other}
use Rattle.mh_base.specs.Characters.{is_blank}

abbrev pub led_by : ℕ → List (List ℕ) → List (List ℕ)
led_by b [] = (b ∷ []) ∷ []
led_by b (line ∷ lines) = (b ∷ line) ∷ lines

-- the lines of a text, each with the line feed that ends it; the last may have none
unfoldable pub lines : List ℕ → List (List ℕ)
lines [] = []
lines (b ∷ rest) = if b == 10 then (b ∷ []) ∷ lines rest else led_by b (lines rest)

-- what follows this front
abbrev pub behind_front : List ℕ → List ℕ → Option (List ℕ)
behind_front front text = if bytes_eq (take (length front) text) front then Some (drop (length front) text) else None

-- two hyphens
abbrev pub hyphens : List ℕ
hyphens = 45 ∷ 45 ∷ []

-- the rest of the line is only blanks
abbrev pub is_over : Option (List ℕ) → Bool
is_over None = false
is_over (Some text) = list_all is_blank text

-- what a line is by what follows two hyphens and the boundary: a boundary line has only blanks there, the closing line
-- two more hyphens before them
abbrev pub mark_behind : Option (List ℕ) → Mark
mark_behind None = Other
mark_behind (Some text) =
    if list_all is_blank text then Boundary else (if is_over (behind_front hyphens text) then Closing else Other)

-- what a line is to the multipart of this boundary
unfoldable pub mark_of : List ℕ → List ℕ → Mark
mark_of boundary line = mark_behind (option_and_then (behind_front boundary) (behind_front hyphens (without_end line)))

-- the length of the first line
unfoldable pub line_len : List ℕ → ℕ
line_len [] = 0
line_len (b ∷ rest) = if b == 10 then 1 else 1 + line_len rest
