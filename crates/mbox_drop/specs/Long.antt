-- Messages that are too long.
use Rattle.std.specs.Option.{option_or}
use Rattle.std.specs.Prelude.{ℕ, nat_lt, List, [], ◌∷◌, length, Option, Some, None, if◌then◌else◌}

-- the length, where it is more than a message may have
abbrev pub long_of : ℕ → Option ℕ
long_of n = if nat_lt 67108864 n then Some n else None

-- the length of the first of the messages that is too long
abbrev pub first_long : List (List ℕ) → Option ℕ
first_long [] = None
first_long (message ∷ rest) = option_or (long_of (length message)) (first_long rest)

-- the number of bytes after a separator line, where no message that is short enough can end in them
abbrev pub overlong_of : ℕ → Option ℕ
overlong_of n = if nat_lt 67108871 n then Some n else None

-- the length of the first of these messages that is too long, or else the number of the bytes after them
abbrev pub excess : List (List ℕ) → ℕ → Option ℕ
excess given rest = option_or (first_long given) (overlong_of rest)
