-- What the code's pieces show.
use Rattle.std.specs.Prelude.{◌≡◌, ℕ, ◌+◌, List, [], ◌∷◌, length, map}
use Rattle.mime_tree.specs.declared.pieces.Piece.{Piece}
use Rattle.mime_tree.specs.declared.pieces.Pieces.{Pieces}
use Rattle.mime_tree.specs.declared.span.Span.{Span}
use Rattle.mime_tree.specs.BoundaryLines.{lines}
use Rattle.mime_tree.specs.DashLines.{IsPlain, Marks}
use Rattle.mime_tree.specs.Pieces.{Found}
use Rattle.mime_tree.specs.Spans.{text_at}

abbrev pub found : Pieces → Found
found p = record { spans = map (λ q. q.span) p.pieces.items; odd = p.odd }

-- the span lies within the bytes
abbrev pub IsInside : List ℕ → Span → Type 0
IsInside bytes span = span.from + length (text_at bytes span) ≡ span.to

-- the piece lies within the bytes, and its marks are those of its lines
pub record IsReady (bytes : List ℕ) (piece : Piece) : Type 0 where
  pub inside : IsInside bytes piece.span
  pub marked : Marks IsPlain piece.span.from (lines (text_at bytes piece.span)) piece.marks.now

abbrev pub AreReady : List ℕ → List Piece → Type 0
AreReady bytes [] = Unit {0}
AreReady bytes (q ∷ qs) = IsReady bytes q × AreReady bytes qs
