-- A line before its line feed.
use Rattle.std.specs.Prelude.{ℕ, ◌-◌, ◌==◌, List, length, take, slice_index, if◌then◌else◌}

-- without the carriage return at its end
abbrev pub without_return : List ℕ → List ℕ
without_return line = if slice_index line (length line - 1) == 13 then take (length line - 1) line else line
