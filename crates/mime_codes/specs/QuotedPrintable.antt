-- Quoted-printable text (RFC 2045, section 6.7).
use Rattle.std.specs.Prelude.{ℕ, zero, suc, ◌+◌, ◌==◌, ◌&&◌, ◌||◌, not, nat_le, Bool, true, List, [], ◌∷◌, ◌++◌, length, drop, slice_index, Option, Some, None, if◌then◌else◌}
use Rattle.std.specs.List.{prefix_len}
use Rattle.mime_codes.specs.Hexadecimal.{escaped_byte, escape}
use Rattle.mh_base.specs.Characters.{is_blank}

-- the length of a line end at the front, a line feed with or without a carriage return before it; 0 where there is none
abbrev pub line_end_len : List ℕ → ℕ
line_end_len bytes =
    if slice_index bytes 0 == 10 then 1
    else (if slice_index bytes 0 == 13 && slice_index bytes 1 == 10 then 2 else 0)

-- the length of the blanks at the front
abbrev pub blank_len : List ℕ → ℕ
blank_len bytes = prefix_len is_blank bytes

-- the blanks at the front are the last on their line
abbrev pub ends_line : List ℕ → Bool
ends_line bytes = not (line_end_len (drop (blank_len bytes) bytes) == 0)

-- the length of the blanks at the front with the line end behind them
abbrev pub ending_len : List ℕ → ℕ
ending_len bytes = blank_len bytes + line_end_len (drop (blank_len bytes) bytes)

-- an escaped byte and what follows it, or where none is escaped, something else
abbrev pub with_escaped : Option ℕ → List ℕ → List ℕ → List ℕ
with_escaped (Some b) rest other = b ∷ rest
with_escaped None rest other = other

-- what a text stands for once so many bytes are passed: an equals sign and two digits are a byte; an equals sign before
-- the end of its line, blanks in between or not, stands for nothing, and nor does that end; blanks that are last on
-- their line stand for nothing; every other byte stands for itself
unfoldable pub decoded_behind : ℕ → List ℕ → List ℕ
decoded_behind n [] = []
decoded_behind (suc n) (b ∷ rest) = decoded_behind n rest
decoded_behind zero (b ∷ rest) =
    if b == 61
    then with_escaped (escaped_byte rest) (decoded_behind 2 rest)
    (if ends_line rest then decoded_behind (ending_len rest) rest else b ∷ decoded_behind 0 rest)
    else (if is_blank b && ends_line rest then decoded_behind 0 rest else b ∷ decoded_behind 0 rest)

-- what a text stands for
abbrev pub qp_decoded : List ℕ → List ℕ
qp_decoded text = decoded_behind 0 text

-- nothing is left of the line: a line feed comes next, or the end
abbrev pub is_line_over : List ℕ → Bool
is_line_over [] = true
is_line_over (b ∷ rest) = b == 10

-- a byte that stands for itself before these: printable and no equals sign, or a blank that isn't last on its line
abbrev pub is_plain : ℕ → List ℕ → Bool
is_plain b rest = (nat_le 33 b && nat_le b 126 && not (b == 61)) || (is_blank b && not (is_line_over rest))

-- how a byte other than a line feed is written before these
abbrev pub item : ℕ → List ℕ → List ℕ
item b rest = if is_plain b rest then b ∷ [] else escape b

-- an item of this length stays on a line that has so many characters: there is then room for the equals sign of a soft
-- line break, which the last item of a line doesn't need
abbrev pub has_room : ℕ → ℕ → List ℕ → Bool
has_room column len rest = nat_le (column + len) 75 || (nat_le (column + len) 76 && is_line_over rest)

-- an item behind so many characters of a line, or behind a soft line break, and then more from the column that it ends
-- at
abbrev pub placed : ℕ → List ℕ → List ℕ → (ℕ → List ℕ) → List ℕ
placed column item rest more =
    if has_room column (length item) rest then item ++ more (column + length item)
    else 61 ∷ 10 ∷ item ++ more (length item)

-- how these bytes are written behind so many characters of a line
unfoldable pub encoded_from : ℕ → List ℕ → List ℕ
encoded_from column [] = []
encoded_from column (b ∷ rest) =
    if b == 10 then 10 ∷ encoded_from 0 rest
    else placed column (item b rest) rest (λ n. encoded_from n rest)

-- the encoding of these bytes
abbrev pub qp_encoded : List ℕ → List ℕ
qp_encoded bytes = encoded_from 0 bytes
