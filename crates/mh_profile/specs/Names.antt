-- Names of entries, and when two of them are the same.
use Rattle.std.specs.Prelude.{◌≡◌, ℕ, ◌≤◌, ◌&&◌, ◌||◌, Bool, true, not, nat_eq, bytes_eq, List, [], ◌∷◌, length, map, if◌then◌else◌}
use Rattle.std.specs.List.{list_all, starts_with}
use Rattle.std.specs.Char.{to_ascii_uppercase}
use Rattle.mail_headers.specs.Lines.{is_name_byte}
use Rattle.mail_headers.specs.Fields.{same_name}

-- a field's name: one or more bytes that a name may hold
pub record IsFieldName (name : List ℕ) : Type 0 where
  pub some : 1 ≤ length name
  pub clean : list_all is_name_byte name ≡ true

-- the name of an attribute: it begins with "atr-", in just these letters
abbrev pub is_attribute : List ℕ → Bool
is_attribute name = starts_with nat_eq name (97 ∷ 116 ∷ 114 ∷ 45 ∷ [])

-- two names are the same where they are equal byte for byte, or where neither is an attribute's and they are equal
-- without ASCII case
unfoldable pub same_entry : List ℕ → List ℕ → Bool
same_entry a b = bytes_eq a b || (not (is_attribute a) && not (is_attribute b) && same_name a b)

-- the key of a name: an attribute's name as it is, and any other name in capitals
unfoldable pub key_of : List ℕ → List ℕ
key_of name = if is_attribute name then name else map to_ascii_uppercase name
