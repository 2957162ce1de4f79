-- Printed numbers. 32 is a space, 45 a minus, 48 a zero and 63 a question mark.
use Rattle.std.specs.Prelude.{ℕ, ◌-◌, nat_le, List, ◌∷◌, ◌++◌, length, take, drop, replicate, Option, Some, None, ℤ, pos, negsuc, if◌then◌else◌}
use Rattle.std.specs.Fmt.{signed_decimal}
use Rattle.format_compiler.specs.declared.width.Width.{Width}

-- how many characters the sign of a number takes
abbrev pub sign_len : ℤ → ℕ
sign_len (pos n) = 0
sign_len (negsuc n) = 1

-- so many zeros between sign and digits, or so many spaces before both
abbrev pub filled : Width → ℕ → ℤ → List ℕ
filled w missing n =
    if w.zeros then take (sign_len n) (signed_decimal n) ++ replicate missing 48 ++ drop (sign_len n) (signed_decimal n)
    else replicate missing 32 ++ signed_decimal n

-- a question mark and a text's last characters, so many with it
abbrev pub last_of : ℕ → List ℕ → List ℕ
last_of columns text = 63 ∷ drop (length text - (columns - 1)) text

-- a number as it is printed: in decimal, and with a width filled or cut to it
abbrev pub printed_number : Option Width → ℤ → List ℕ
printed_number None n = signed_decimal n
printed_number (Some w) n =
    if nat_le (length (signed_decimal n)) w.columns then filled w (w.columns - length (signed_decimal n)) n
    else last_of w.columns (signed_decimal n)
