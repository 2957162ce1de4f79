-- Lines of a header, and the bytes of names and blanks.
use Rattle.std.specs.Prelude.{ℕ, ◌+◌, ◌==◌, ◌&&◌, Bool, false, not, nat_le, List, [], ◌∷◌, ◌-◌, length, take, slice_index, if◌then◌else◌}
use Rattle.mh_base.specs.Characters.{is_blank}

-- a byte of a field's name: printable and no colon
abbrev pub is_name_byte : ℕ → Bool
is_name_byte b = nat_le 33 b && nat_le b 126 && not (b == 58)

-- these bytes begin with a blank, and so would continue a field
abbrev pub continues : List ℕ → Bool
continues [] = false
continues (b ∷ bs) = is_blank b

-- the length of the first line with all the lines that continue it
unfoldable pub folded_len : List ℕ → ℕ
folded_len [] = 0
folded_len (b ∷ bs) = if b == 10 && not (continues bs) then 1 else 1 + folded_len bs

-- the text without the line feed that ends it and the carriage return before that
abbrev pub without_feed : List ℕ → List ℕ
without_feed text = if slice_index text (length text - 1) == 13 then take (length text - 1) text else text

unfoldable pub without_end : List ℕ → List ℕ
without_end text = if slice_index text (length text - 1) == 10 then without_feed (take (length text - 1) text) else text

-- the length of an empty line at the front, with its end; 0 where the first line isn't empty
abbrev pub empty_line_len : List ℕ → ℕ
empty_line_len bytes =
    if slice_index bytes 0 == 10 then 1
    else (if slice_index bytes 0 == 13 && slice_index bytes 1 == 10 then 2 else 0)
