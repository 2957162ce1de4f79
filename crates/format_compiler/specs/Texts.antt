-- The characters of a format's text. 10 is a line feed.
use Rattle.std.specs.Prelude.{ℕ, ◌-◌, ◌==◌, List, length, take, slice_index, if◌then◌else◌}
use Rattle.std.specs.Str.{chars, encode_utf8_all}
use Rattle.std.specs.Str.Lossy.{utf8_valid_len}

-- a text without the line feed at its end
abbrev pub without_feed : List ℕ → List ℕ
without_feed text = if slice_index text (length text - 1) == 10 then take (length text - 1) text else text

-- the characters of the longest front that is UTF-8 (RFC 3629)
abbrev pub characters_in : List ℕ → List ℕ
characters_in text = chars (take (utf8_valid_len text) text)

-- how many bytes stand before what is left of these characters at their end
abbrev pub place_of : List ℕ → List ℕ → ℕ
place_of characters left = length (encode_utf8_all (take (length characters - length left) characters))
