-- Literals and numbers, as they are written. 32 is a space, 40 and 41 are parentheses, 45 is a minus.
use Rattle.std.specs.Prelude.{ℕ, ◌+◌, ◌*◌, ◌==◌, ◌&&◌, not, Bool, nat_le, List, [], ◌∷◌, take, drop, Option, Some, None, Ok, Err, ℤ, pos, neg_ℤ, if◌then◌else◌}
use Rattle.std.specs.List.{prefix_len}
use Rattle.format_compiler.specs.Reading.{Read, ◌>>=◌, then_character}
use Rattle.format_compiler.specs.Widths.{digit_value}
use Rattle.mh_base.specs.Characters.{is_digit}

abbrev pub is_literal : ℕ → Bool
is_literal c = not (c == 41)

-- the characters up to a closing parenthesis, which stands behind them
abbrev pub literal_in : List ℕ → Read (List ℕ)
literal_in text = then_character 41 (take (prefix_len is_literal text) text) (drop (prefix_len is_literal text) text)

-- one space and such a literal
abbrev pub spaced_literal_in : List ℕ → Read (List ℕ)
spaced_literal_in [] = Err []
spaced_literal_in (c ∷ text) = if c == 32 then literal_in text else Err (c ∷ text)

-- the number that digits write behind those of this one, while it is at most the limit
abbrev pub decimal_within : ℕ → ℕ → List ℕ → Option ℕ
decimal_within limit n [] = Some n
decimal_within limit n (c ∷ text) =
    if is_digit c && nat_le (n * 10 + digit_value c) limit then decimal_within limit (n * 10 + digit_value c) text
    else None

abbrev pub some_decimal_within : ℕ → List ℕ → Option ℕ
some_decimal_within limit [] = None
some_decimal_within limit (c ∷ text) = decimal_within limit 0 (c ∷ text)

abbrev pub signed_by : (ℕ → ℤ) → Option ℕ → Option ℤ
signed_by sign None = None
signed_by sign (Some n) = Some (sign n)

-- the whole number of 64 bits that a text is: a minus where it is below 0, and digits
abbrev pub number_of : List ℕ → Option ℤ
number_of [] = None
number_of (c ∷ text) =
    if c == 45 then signed_by (λ n. neg_ℤ (pos n)) (some_decimal_within 9223372036854775808 text)
    else signed_by pos (some_decimal_within 9223372036854775807 (c ∷ text))

abbrev pub number_by : List ℕ → List ℕ → Option ℤ → Read ℤ
number_by whole behind None = Err whole
number_by whole behind (Some n) = Ok (n, behind)

-- one space, a number and a closing parenthesis; where the number is wrong, all of it is, the space included
abbrev pub spaced_number_in : List ℕ → Read ℤ
spaced_number_in text = spaced_literal_in text >>= λ literal behind. number_by text behind (number_of literal)
