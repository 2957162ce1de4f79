-- Names of sequences.
use Rattle.std.specs.Prelude.{◌≡◌, ℕ, ◌&&◌, ◌||◌, Bool, true, false, not, nat_le, bytes_eq, List, [], ◌∷◌, length, codes, Option, None, Some}
use Rattle.std.specs.List.{list_all}
use Rattle.std.specs.Char.{is_ascii_alphabetic, is_ascii_alphanumeric}

abbrev pub begins_with_letter : List ℕ → Bool
begins_with_letter [] = false
begins_with_letter (c ∷ cs) = is_ascii_alphabetic c

-- a name that means something else among message names
abbrev pub is_reserved : List ℕ → Bool
is_reserved name =
    bytes_eq name (codes "first") || bytes_eq name (codes "last") || bytes_eq name (codes "cur")
    || bytes_eq name (codes "prev") || bytes_eq name (codes "next") || bytes_eq name (codes "all")
    || bytes_eq name (codes "new")

-- a letter and then letters and digits, ASCII, at most 64 bytes, and not reserved
unfoldable pub is_seq_name : List ℕ → Bool
is_seq_name name =
    begins_with_letter name && list_all is_ascii_alphanumeric name && nat_le (length name) 64 && not (is_reserved name)

-- what was read from bytes: the name that they are, or nothing where they are none
abbrev pub IsNameIn : List ℕ → Option (List ℕ) → Type 0
IsNameIn bytes None = is_seq_name bytes ≡ false
IsNameIn bytes (Some name) = (name ≡ bytes) × (is_seq_name bytes ≡ true)
