-- Lines that stand before the bytes of a message, and a message with such lines.
use Rattle.std.specs.Prelude.{◌≡◌, ◌++◌, ◌==◌, ◌&&◌, ◌-◌, ℕ, Bool, true, not, bytes_eq, List, [], length, take, codes, slice_index, if◌then◌else◌}
use Rattle.std.specs.List.{list_all, slice_split}
use Rattle.mail_headers.specs.Fields.{name_in, after_name}

-- a field's name, a colon, a space, and any text
abbrev pub is_annotation : List ℕ → Bool
is_annotation line = not (bytes_eq (name_in line) []) && bytes_eq (take 2 (after_name line)) (codes ": ")

-- zero or more such lines, each with an LF
abbrev pub are_annotations : List ℕ → Bool
are_annotations text =
    if bytes_eq text [] then true
    else (slice_index text (length text - 1) == 10
    && list_all is_annotation (slice_split (λ b. b == 10) (take (length text - 1) text)))

-- the copy is the bytes, or such lines and then the bytes
abbrev pub Annotates : List ℕ → List ℕ → Type 0
Annotates bytes copy = (text : List ℕ) × (copy ≡ text ++ bytes) × (are_annotations text ≡ true)
