-- The header of a draft.
use Rattle.std.specs.Prelude.{ℕ, zero, suc, ◌+◌, ◌-◌, ◌==◌, ◌||◌, Bool, codes, List, length, take, drop, Option, Some, None, if◌then◌else◌}
use Rattle.std.specs.List.{count_by}
use Rattle.mail_headers.specs.Fields.{FieldText, first_field, same_name}
use Rattle.mail_headers.specs.Lines.{folded_len}
use Rattle.mail_headers.specs.Message.{rest_of}

-- a field that the message gets from the draft's body
abbrev pub is_reserved : List ℕ → Bool
is_reserved name = same_name name (codes "MIME-Version") || same_name (take 8 name) (codes "Content-")

abbrev pub reserved_with : Option FieldText → List ℕ → Option (List ℕ) → Option (List ℕ)
reserved_with None bytes more = None
reserved_with (Some field) bytes more = if is_reserved field.name then Some bytes else more

-- the bytes from the first reserved field on, among at most so many fields
abbrev pub reserved_up_to : ℕ → List ℕ → Option (List ℕ)
reserved_up_to zero bytes = None
reserved_up_to (suc n) bytes =
    reserved_with (first_field bytes) bytes (reserved_up_to n (drop (folded_len bytes) bytes))

-- the bytes from the first reserved field on
unfoldable pub reserved_in : List ℕ → Option (List ℕ)
reserved_in bytes = reserved_up_to (length bytes) bytes

-- what stands before this end of a text
abbrev pub before : List ℕ → List ℕ → List ℕ
before bytes end = take (length bytes - length end) bytes

-- the number of the line with which this end of a text begins
abbrev pub line_at : List ℕ → List ℕ → ℕ
line_at bytes end = count_by (λ b. b == 10) (before bytes end) + 1

-- the fields of a draft, byte for byte
abbrev pub fields_in : List ℕ → List ℕ
fields_in bytes = before bytes (rest_of bytes)
