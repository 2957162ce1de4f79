-- A field's value on one line.
use Rattle.std.specs.Prelude.{ℕ, ◌==◌, ◌&&◌, ◌||◌, Bool, List, [], ◌∷◌, ◌-◌, length, take, drop, slice_index, if◌then◌else◌}
use Rattle.std.specs.List.{prefix_len, suffix_len}
use Rattle.mh_base.specs.Characters.{is_blank}

-- this byte, before those, ends a line or belongs to a line's end
abbrev pub ends_line : ℕ → List ℕ → Bool
ends_line b rest = b == 10 || (b == 13 && slice_index rest 0 == 10)

-- the lines of a value, joined
unfoldable pub joined : List ℕ → List ℕ
joined [] = []
joined (b ∷ rest) = if ends_line b rest then joined rest else b ∷ joined rest

-- a byte that is dropped at both ends: a blank or a carriage return
abbrev pub is_edge : ℕ → Bool
is_edge b = is_blank b || b == 13

abbrev pub trimmed : List ℕ → List ℕ
trimmed bytes =
    let front = drop (prefix_len is_edge bytes) bytes in take (length front - suffix_len is_edge front) front

-- the value without its line ends, and without blanks and carriage returns at its ends
unfoldable pub unfolded : List ℕ → List ℕ
unfolded value = trimmed (joined value)
