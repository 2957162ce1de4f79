-- Base64 text (RFC 2045, section 6.8).
use Rattle.std.specs.Prelude.{ℕ, zero, suc, ◌+◌, ◌-◌, ◌*◌, ◌/◌, ◌%◌, ◌==◌, ◌&&◌, ◌||◌, not, nat_le, Bool, true, List, [], ◌∷◌, ◌++◌, length, take, drop, map, filter, take_while, codes, if◌then◌else◌}
use Rattle.base64.specs.Rfc4648.{encode}
use Rattle.mh_base.specs.Characters.{is_digit}

-- the symbols of the numbers from 0 to 63
abbrev pub alphabet : List ℕ
alphabet = codes "ABCDEFGHIJKLMNOPQRSTUVWXYZabcdefghijklmnopqrstuvwxyz0123456789+/"

-- A to Z
abbrev pub is_capital : ℕ → Bool
is_capital c = nat_le 65 c && nat_le c 90

-- a to z
abbrev pub is_small : ℕ → Bool
is_small c = nat_le 97 c && nat_le c 122

-- a character of the alphabet
abbrev pub is_symbol : ℕ → Bool
is_symbol c = is_capital c || is_small c || is_digit c || c == 43 || c == 47

-- how many symbols a byte is
abbrev pub symbol_count : ℕ → ℕ
symbol_count c = if is_symbol c then 1 else 0

-- the number of a symbol: its place in the alphabet
abbrev pub sextet : ℕ → ℕ
sextet c =
    if is_capital c then c - 65
    else (if is_small c then c - 71 else (if is_digit c then c + 4 else (if c == 43 then 62 else 63)))

-- the numbers of the symbols before the first padding character; every other character stands for nothing
abbrev pub sextets : List ℕ → List ℕ
sextets text = map sextet (filter is_symbol (take_while (λ c. not (c == 61)) text))

-- the bytes of these numbers: four are three bytes; of the last, three are two and two are one, with no regard to the
-- bits that are left over
unfoldable pub octets : List ℕ → List ℕ
octets [] = []
octets (a ∷ []) = []
octets (a ∷ b ∷ []) = (a * 4 + b / 16) ∷ []
octets (a ∷ b ∷ c ∷ []) = (a * 4 + b / 16) ∷ (b % 16 * 16 + c / 4) ∷ []
octets (a ∷ b ∷ c ∷ d ∷ rest) = (a * 4 + b / 16) ∷ (b % 16 * 16 + c / 4) ∷ (c % 4 * 64 + d) ∷ octets rest

-- the bytes for which a text stands
abbrev pub b64_decoded : List ℕ → List ℕ
b64_decoded text = octets (sextets text)

-- the text in at most so many lines of 76 characters, with a line feed behind each
abbrev pub lines_up_to : ℕ → List ℕ → List ℕ
lines_up_to zero text = []
lines_up_to (suc n) [] = []
lines_up_to (suc n) (c ∷ text) = take 76 (c ∷ text) ++ 10 ∷ lines_up_to n (drop 76 (c ∷ text))

-- the text in lines
unfoldable pub in_lines : List ℕ → List ℕ
in_lines text = lines_up_to (length text) text

-- the encoding of these bytes, with padding
abbrev pub b64_encoded : List ℕ → List ℕ
b64_encoded bytes = in_lines (encode alphabet 61 true bytes)
