-- Widths of lines, as words say them. 48 to 57 are the digits.
use Rattle.std.specs.Prelude.{ℕ, ◌&&◌, nat_le, List, Option, None, Some, if◌then◌else◌}
use Rattle.std.specs.List.{list_all}
use Rattle.std.specs.Str.Parse.{digits_value}
use Rattle.mh_base.specs.Characters.{is_digit}

-- so many columns, if they are 1 to 10,000
abbrev pub within_columns : ℕ → Option ℕ
within_columns n = if nat_le 1 n && nat_le n 10000 then Some n else None

-- the columns that a word says: it has just digits, and these write such a number
abbrev pub columns_in : List ℕ → Option ℕ
columns_in text = if list_all is_digit text then within_columns (digits_value 10 text) else None
