-- The pieces into which a quoted-printable text is read.
use Rattle.std.specs.Prelude.{◌≡◌, ◌≤◌, ℕ, List, [], ◌∷◌, ◌++◌, length, take, drop}
use Rattle.mime_codes.specs.QuotedPrintable.{qp_decoded}
use Rattle.mime_codes.specs.declared.piece.Piece.{Piece}
use Rattle.mime_codes.specs.declared.piece.Piece.TheVariants.{Byte, Blanks, Nothing}

-- how many bytes of the text it takes
abbrev pub piece_len : Piece → ℕ
piece_len (Byte value len) = len
piece_len (Blanks len) = len
piece_len (Nothing len) = len

-- what it stands for at the front of this text
abbrev pub piece_text : Piece → List ℕ → List ℕ
piece_text (Byte value len) text = value ∷ []
piece_text (Blanks len) text = take len text
piece_text (Nothing len) text = []

-- the text begins with this piece
pub record BeginsWith (text : List ℕ) (piece : Piece) : Type 0 where
  pub some : 1 ≤ piece_len piece
  pub inside : piece_len piece ≤ length text
  pub stands : qp_decoded text ≡ piece_text piece text ++ qp_decoded (drop (piece_len piece) text)
