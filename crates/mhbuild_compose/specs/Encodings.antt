-- How a body is carried (RFC 2045, section 6).
use Rattle.std.specs.Prelude.{ℕ, ◌+◌, ◌==◌, ◌&&◌, not, nat_le, nat_lt, Bool, true, false, Option, Some, None, bytes_eq, codes, List, [], ◌∷◌, if◌then◌else◌}
use Rattle.mime_codes.specs.Base64.{b64_encoded}
use Rattle.mime_codes.specs.QuotedPrintable.{qp_encoded}
use Rattle.mhbuild_compose.specs.declared.encoding.Encoding.{Encoding}
use Rattle.mhbuild_compose.specs.declared.encoding.Encoding.TheVariants.{SevenBit, EightBit, QuotedPrintable, Base64}

-- a byte from 1 to 127 that is no carriage return
abbrev pub is_plain : ℕ → Bool
is_plain b = nat_le 1 b && nat_le b 127 && not (b == 13)

abbrev pub is_high : ℕ → Bool
is_high b = nat_le 128 b

-- how many bytes stand on the line behind a byte: a plain one, and not the 999th
abbrev pub column_behind : ℕ → ℕ → Option ℕ
column_behind column b =
    if b == 10 then Some 0 else (if is_plain b && nat_lt column 998 then Some (column + 1) else None)

abbrev pub fits_with : Option ℕ → (ℕ → Bool) → Bool
fits_with None more = false
fits_with (Some column) more = more column

-- each byte is plain, and no line has more than 998 bytes, if so many stand on the first one already
unfoldable pub fits_line : ℕ → List ℕ → Bool
fits_line column [] = true
fits_line column (b ∷ rest) = fits_with (column_behind column b) (λ next. fits_line next rest)

abbrev pub is_seven : List ℕ → Bool
is_seven text = fits_line 0 text

-- how a body of this type is carried
abbrev pub encoding_of : List ℕ → List ℕ → Encoding
encoding_of kind text =
    if is_seven text then SevenBit
    else
    (if bytes_eq kind (codes "text") then QuotedPrintable
    else (if bytes_eq kind (codes "message") then EightBit else Base64))

abbrev pub encoded_by : Encoding → List ℕ → List ℕ
encoded_by SevenBit text = text
encoded_by EightBit text = text
encoded_by QuotedPrintable text = qp_encoded text
encoded_by Base64 text = b64_encoded text
