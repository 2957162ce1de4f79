-- What functions make of texts. 34 is a quote mark, 92 a backslash, and 48 to 57 are the digits.
use Rattle.std.specs.Prelude.{ℕ, ◌+◌, ◌-◌, ◌*◌, ◌==◌, ◌||◌, Bool, min, List, [], ◌∷◌, length, take, bytes_eq, ℤ, pos, if◌then◌else◌}
use Rattle.std.specs.List.{suffix_len}
use Rattle.mh_base.specs.Characters.{is_digit}

-- a text begins with this one
abbrev pub begins : List ℕ → List ℕ → Bool
begins text piece = bytes_eq (take (length piece) text) piece

-- this text stands in another
abbrev pub stands_in : List ℕ → List ℕ → Bool
stands_in piece [] = begins [] piece
stands_in piece (c ∷ text) = begins (c ∷ text) piece || stands_in piece text

abbrev pub is_space : ℕ → Bool
is_space c = c == 32

-- a text without the spaces at its end
abbrev pub trimmed : List ℕ → List ℕ
trimmed text = take (length text - suffix_len is_space text) text

-- a text without quote marks, in which each backslash is dropped before a character, which stays; a last one stays
-- itself
unfoldable pub unquoted : List ℕ → List ℕ
unquoted [] = []
unquoted (c ∷ []) = if c == 34 then [] else c ∷ []
unquoted (c ∷ (d ∷ text)) =
    if c == 34 then unquoted (d ∷ text) else (if c == 92 then d ∷ unquoted text else c ∷ unquoted (d ∷ text))

-- the number that the digits at a text's front write behind those of this one
unfoldable pub number_behind : ℕ → List ℕ → ℕ
number_behind n [] = n
number_behind n (c ∷ text) = if is_digit c then number_behind (n * 10 + (c - 48)) text else n

-- the number that the digits at a text's front write, or the greatest of 64 bits
abbrev pub leading_number : List ℕ → ℤ
leading_number text = pos (min (number_behind 0 text) 9223372036854775807)
