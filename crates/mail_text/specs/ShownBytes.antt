-- Bytes as a reader sees them.
use Rattle.std.specs.Prelude.{ℕ, zero, suc, ◌+◌, ◌==◌, List, ◌∷◌, ◌++◌, length, take, drop, if◌then◌else◌}
use Rattle.std.specs.Str.{chars}
use Rattle.std.specs.Str.Lossy.{utf8_valid_len}

-- the characters of the longest front that is UTF-8, then a question mark for the byte behind it, with which no
-- character begins, and so on behind that byte, for at most so many such bytes
abbrev pub shown_up_to : ℕ → List ℕ → List ℕ
shown_up_to zero bytes = chars bytes
shown_up_to (suc n) bytes =
    if utf8_valid_len bytes == length bytes then chars bytes
    else chars (take (utf8_valid_len bytes) bytes) ++ 63 ∷ shown_up_to n (drop (utf8_valid_len bytes + 1) bytes)

-- the characters of the UTF-8, with a question mark for each byte that is part of no character, looked at from the left
unfoldable pub shown : List ℕ → List ℕ
shown bytes = shown_up_to (length bytes) bytes
