-- Bytes as a terminal may show them.
use Rattle.std.specs.Prelude.{ℕ, ◌&&◌, nat_le, List, map, if◌then◌else◌}

-- a byte as it is shown: printable ASCII, or a question mark
abbrev pub shown_byte : ℕ → ℕ
shown_byte b = if nat_le 32 b && nat_le b 126 then b else 63

abbrev pub shown : List ℕ → List ℕ
shown bytes = map shown_byte bytes
