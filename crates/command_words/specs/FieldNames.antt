-- Names of header fields, as words say them.
use Rattle.std.specs.Prelude.{ℕ, Bool, false, List, [], ◌∷◌}
use Rattle.std.specs.List.{list_all}
use Rattle.std.specs.Str.{encode_utf8_all}
use Rattle.mail_headers.specs.Lines.{is_name_byte}

-- one byte or more, and each may stand in the name of a field
abbrev pub is_name : List ℕ → Bool
is_name [] = false
is_name (b ∷ bytes) = list_all is_name_byte (b ∷ bytes)

abbrev pub is_field_name : List ℕ → Bool
is_field_name text = is_name (encode_utf8_all text)
