-- The pieces into which boundary lines cut a body (RFC 2046, section 5.1.1).
use Rattle.std.specs.Prelude.{ℕ, ◌+◌, Bool, true, false, List, [], ◌∷◌, ◌++◌, length, if◌then◌else◌}
use Rattle.mail_headers.specs.Lines.{without_end}
use Rattle.mime_tree.specs.declared.span.Span.{Span}
use Rattle.mime_tree.specs.declared.odd.Odd.{Odd}
use Rattle.mime_tree.specs.declared.odd.Odd.TheVariants.{None as no_odd, Unclosed}
use Rattle.mime_tree.specs.declared.mark.Mark.{Mark}
use Rattle.mime_tree.specs.declared.mark.Mark.TheVariants.{Boundary, Closing, Other}
use Rattle.mime_tree.specs.BoundaryLines.{mark_of}

-- what stands behind a boundary line: lines up to the next one or to the end, and the pieces behind that
pub record Section : Type 0 where
  pub text : List ℕ
  pub bounded : Bool
  pub more : List Span
  pub odd : Odd

-- the piece that a section begins with: the line end before a boundary line belongs to that line
abbrev pub piece_text : Section → List ℕ
piece_text s = if s.bounded then without_end s.text else s.text

-- where that piece is, if the section begins here
abbrev pub piece_at : ℕ → Section → Span
piece_at place s = record { from = place; to = place + length (piece_text s) }

-- all pieces, if the section begins here
abbrev pub pieces_at : ℕ → Section → List Span
pieces_at place s = piece_at place s ∷ s.more

-- a line before a section: a boundary line begins the section's pieces, and what follows the closing line is no part
abbrev pub section_with : Mark → List ℕ → ℕ → Section → Section
section_with Boundary line behind s = record { text = []; bounded = true; more = pieces_at behind s; odd = s.odd }
section_with Closing line behind s = record { text = []; bounded = true; more = []; odd = no_odd }
section_with Other line behind s = record { text = line ++ s.text; bounded = s.bounded; more = s.more; odd = s.odd }

-- the section that these lines are, from this place on
unfoldable pub section : List ℕ → ℕ → List (List ℕ) → Section
section boundary place [] = record { text = []; bounded = false; more = []; odd = Unclosed }
section boundary place (line ∷ lines) =
    section_with (mark_of boundary line) line (place + length line) (section boundary (place + length line) lines)

-- the places of pieces, and what is odd about them
pub record Found : Type 0 where
  pub spans : List Span
  pub odd : Odd

-- what is found in a section that begins here
abbrev pub section_pieces : ℕ → Section → Found
section_pieces place s = record { spans = pieces_at place s; odd = s.odd }

-- the pieces that these lines hold: what stands before the first boundary line is a section too, whose own text is no
-- piece
abbrev pub pieces : List ℕ → ℕ → List (List ℕ) → Found
pieces boundary place lines = let s = section boundary place lines in record { spans = s.more; odd = s.odd }
