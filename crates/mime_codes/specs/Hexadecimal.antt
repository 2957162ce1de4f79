-- Hexadecimal digits.
use Rattle.std.specs.Prelude.{ℕ, ◌+◌, ◌-◌, ◌*◌, ◌/◌, ◌%◌, ◌&&◌, nat_le, nat_lt, List, [], ◌∷◌, Option, Some, None, if◌then◌else◌}

-- the number of a digit, in either case
abbrev pub hex_value : ℕ → Option ℕ
hex_value c =
    if nat_le 48 c && nat_le c 57 then Some (c - 48)
    else (if nat_le 65 c && nat_le c 70 then Some (c - 55)
    else (if nat_le 97 c && nat_le c 102 then Some (c - 87) else None))

-- the byte of a high and a low digit
abbrev pub byte_by : Option ℕ → Option ℕ → Option ℕ
byte_by (Some high) (Some low) = Some (16 * high + low)
byte_by (Some high) None = None
byte_by None low = None

-- the byte for which two digits at the front stand
abbrev pub escaped_byte : List ℕ → Option ℕ
escaped_byte [] = None
escaped_byte (a ∷ []) = None
escaped_byte (a ∷ b ∷ rest) = byte_by (hex_value a) (hex_value b)

-- the digit of a number below 16, in upper case
abbrev pub hex_digit : ℕ → ℕ
hex_digit n = if nat_lt n 10 then n + 48 else n + 55

-- a byte as an equals sign and two digits
abbrev pub escape : ℕ → List ℕ
escape b = 61 ∷ hex_digit (b / 16) ∷ hex_digit (b % 16) ∷ []
