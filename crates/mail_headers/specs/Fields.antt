-- The fields of a header.
use Rattle.std.specs.Prelude.{ℕ, zero, suc, ◌==◌, Bool, List, [], ◌∷◌, length, take, drop, Option, Some, None, map, if◌then◌else◌}
use Rattle.std.specs.List.{prefix_len}
use Rattle.std.specs.Char.{to_ascii_lowercase}
use Rattle.std.specs.Prelude.{bytes_eq}
use Rattle.mail_headers.specs.Lines.{is_name_byte, folded_len, without_end}
use Rattle.mh_base.specs.Characters.{is_blank}

-- a field's name and its value as they stand
pub record FieldText : Type 0 where
  pub name : List ℕ
  pub value : List ℕ

abbrev pub name_in : List ℕ → List ℕ
name_in text = take (prefix_len is_name_byte text) text

abbrev pub after_name : List ℕ → List ℕ
after_name text = drop (prefix_len is_name_byte text) text

-- what follows the name and the blanks behind it
abbrev pub from_colon : List ℕ → List ℕ
from_colon text = drop (prefix_len is_blank (after_name text)) (after_name text)

-- what follows a colon
abbrev pub after_colon : List ℕ → Option (List ℕ)
after_colon [] = None
after_colon (c ∷ value) = if c == 58 then Some value else None

-- the field of this name and with this text behind its colon
abbrev pub field_by : List ℕ → Option (List ℕ) → Option FieldText
field_by name None = None
field_by name (Some value) = Some (record { name = name; value = without_end value })

-- the field that a text is: a name, blanks, a colon and the value
unfoldable pub field_in : List ℕ → Option FieldText
field_in text = if length (name_in text) == 0 then None else field_by (name_in text) (after_colon (from_colon text))

-- the field with which these bytes begin
abbrev pub first_field : List ℕ → Option FieldText
first_field bytes = field_in (take (folded_len bytes) bytes)

abbrev pub with_first : Option FieldText → List FieldText → List FieldText
with_first None fields = []
with_first (Some field) fields = field ∷ fields

-- the fields with which these bytes begin, of which there are at most so many
abbrev pub fields_up_to : ℕ → List ℕ → List FieldText
fields_up_to zero bytes = []
fields_up_to (suc n) bytes = with_first (first_field bytes) (fields_up_to n (drop (folded_len bytes) bytes))

-- all fields with which these bytes begin
unfoldable pub fields_of : List ℕ → List FieldText
fields_of bytes = fields_up_to (length bytes) bytes

-- names are the same without regard to ASCII case
abbrev pub same_name : List ℕ → List ℕ → Bool
same_name a b = bytes_eq (map to_ascii_lowercase a) (map to_ascii_lowercase b)

-- the value of the first field of this name
abbrev pub first_value : List ℕ → List FieldText → Option (List ℕ)
first_value name [] = None
first_value name (f ∷ fs) = if same_name f.name name then Some f.value else first_value name fs
