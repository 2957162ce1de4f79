-- Numbers as text: decimal, and the 32 hexadecimal digits of a run.
use Rattle.std.specs.Prelude.{ℕ, zero, suc, ◌≤◌, ◌+◌, ◌^◌, ◌/◌, ◌%◌, false, ◌&&◌, nat_lt, bytes_eq, Option, Some, None, List, [], ◌∷◌, ◌++◌, decimal, if◌then◌else◌}
use Rattle.std.specs.Fmt.{digit_glyph}
use Rattle.std.specs.Str.Parse.{digits_value}

-- a message number
abbrev pub IsMsgNum : ℕ → Type 0
IsMsgNum n = (1 ≤ n) × (n ≤ 999999)

-- the k last hexadecimal digits of a number
unfoldable pub hex : ℕ → ℕ → List ℕ
hex zero n = []
hex (suc k) n = hex k (n / 16) ++ digit_glyph false (n % 16) ∷ []

-- a value below its limit, where the bytes are its text
abbrev pub confirmed : ℕ → ℕ → List ℕ → List ℕ → Option ℕ
confirmed value limit text bytes = if nat_lt value limit && bytes_eq text bytes then Some value else None

-- the number below 2^64 whose decimal text this is
unfoldable pub decimal_of : List ℕ → Option ℕ
decimal_of bytes = confirmed (digits_value 10 bytes) (2 ^ 64) (decimal (digits_value 10 bytes)) bytes

-- the run whose 32 hexadecimal digits these are
unfoldable pub run_of : List ℕ → Option ℕ
run_of bytes = confirmed (digits_value 16 bytes) (2 ^ 128) (hex 32 (digits_value 16 bytes)) bytes

abbrev pub in_range : Option ℕ → Option ℕ
in_range None = None
in_range (Some n) = if nat_lt 0 n && nat_lt n 1000000 then Some n else None

-- the message number whose decimal text this is
abbrev pub number_of : List ℕ → Option ℕ
number_of bytes = in_range (decimal_of bytes)

-- so many numbers from this one on
unfoldable pub numbers_up : ℕ → ℕ → List ℕ
numbers_up n zero = []
numbers_up n (suc count) = n ∷ numbers_up (n + 1) count
