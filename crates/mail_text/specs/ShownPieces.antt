-- Bytes that are shown, piece by piece.
use Rattle.std.specs.Prelude.{◌≡◌, ℕ, List, [], ◌∷◌, ◌++◌, map}
use Rattle.std.specs.Char.{IsScalar, encode_utf8}
use Rattle.std.specs.Str.{StartsWithNoChar}

-- a character in UTF-8 (RFC 3629, section 4), or a byte that is part of none
pub data Piece : Type 0 where
  Character : ℕ → Piece
  Stray : ℕ → Piece

abbrev pub bytes_in : Piece → List ℕ
bytes_in (Character c) = encode_utf8 c
bytes_in (Stray byte) = byte ∷ []

-- a character stands for itself, and another byte is a question mark
abbrev pub shown_for : Piece → ℕ
shown_for (Character c) = c
shown_for (Stray byte) = 63

-- the character is one of Unicode, and with the other byte, before what follows, none begins
abbrev pub IsBefore : Piece → List ℕ → Type 0
IsBefore (Character c) after = IsScalar c
IsBefore (Stray byte) after = StartsWithNoChar (byte ∷ after)

-- the bytes are these pieces, one behind the other
abbrev pub ArePieces : List Piece → List ℕ → Type 0
ArePieces [] bytes = bytes ≡ []
ArePieces (p ∷ ps) bytes = (after : List ℕ) × (bytes ≡ bytes_in p ++ after) × IsBefore p after × ArePieces ps after

-- the bytes are shown as this text
abbrev pub IsShownAs : List ℕ → List ℕ → Type 0
IsShownAs bytes text = (pieces : List Piece) × ArePieces pieces bytes × (text ≡ map shown_for pieces)

-- and as no other
abbrev pub AsNoOther : List ℕ → List ℕ → Type 0
AsNoOther bytes text = (other : List ℕ) → IsShownAs bytes other → other ≡ text
