-- What a folder may be called.
use Rattle.std.specs.Prelude.{ℕ, ◌==◌, ◌&&◌, Bool, true, false, not, nat_le, ◌-◌, bytes_eq, List, [], ◌∷◌, length, take, codes, if◌then◌else◌, slice_index}
use Rattle.std.specs.List.{list_all, slice_split}
use Rattle.std.specs.Str.{encode_utf8_all}
use Rattle.mh_base.specs.Entries.{kind_of}
use Rattle.mh_base.specs.declared.entry.Entry.{Entry}
use Rattle.mh_base.specs.declared.entry.Entry.TheVariants.{Number, Other}

-- a kind that a folder's name may have
abbrev pub is_folder_kind : Entry → Bool
is_folder_kind (Number n) = true
is_folder_kind Other = true
is_folder_kind _ = false

-- one name of the path: not empty, not `.` or `..`, and no name that this program gives a meaning
abbrev pub is_segment : List ℕ → Bool
is_segment s =
    not (bytes_eq s []) && not (bytes_eq s (codes ".")) && not (bytes_eq s (codes "..")) && is_folder_kind (kind_of s)

abbrev pub segments : List ℕ → List (List ℕ)
segments bytes = slice_split (λ b. b == 47) bytes

-- not the context's name, nor a folder below it
abbrev pub is_no_context : List ℕ → Bool
is_no_context bytes = not (bytes_eq bytes (codes "context")) && not (bytes_eq (take 8 bytes) (codes "context/"))

-- a byte that a folder's name may hold: no control character
abbrev pub is_folder_byte : ℕ → Bool
is_folder_byte b = nat_le 32 b && not (b == 127)

-- 1 to 200 bytes
abbrev pub has_folder_length : List ℕ → Bool
has_folder_length bytes = nat_le 1 (length bytes) && nat_le (length bytes) 200

-- no plus sign first, and no space first or last
abbrev pub has_good_ends : List ℕ → Bool
has_good_ends bytes =
    not (slice_index bytes 0 == 43) && not (slice_index bytes 0 == 32)
    && not (slice_index bytes (length bytes - 1) == 32)

-- the bytes of a folder's name
abbrev pub is_folder_text : List ℕ → Bool
is_folder_text bytes =
    has_folder_length bytes && has_good_ends bytes && list_all is_folder_byte bytes && is_no_context bytes
    && list_all is_segment (segments bytes)

-- a folder's name as characters
unfoldable pub is_folder_name : List ℕ → Bool
is_folder_name name = is_folder_text (encode_utf8_all name)

-- the word without one leading plus sign
abbrev pub without_plus : List ℕ → List ℕ
without_plus [] = []
without_plus (c ∷ rest) = if c == 43 then rest else c ∷ rest
