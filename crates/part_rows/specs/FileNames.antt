-- The files that parts are stored in. 46 is a dot and 95 an underscore.
use Rattle.std.specs.Prelude.{ℕ, ◌==◌, ◌||◌, Bool, List, [], ◌∷◌, ◌++◌, take, map, codes, decimal, if◌then◌else◌}
use Rattle.std.specs.Char.{is_ascii_alphanumeric}
use Rattle.std.specs.List.{list_any}
use Rattle.std.specs.Str.{encode_utf8_all}
use Rattle.part_rows.specs.Choices.{stored}
use Rattle.part_rows.specs.PartViews.{PartView, parts_of}
use Rattle.part_rows.specs.PathTexts.{dotted, path_text}

-- a letter, a digit, a minus, a plus, a dot or an underscore
abbrev pub stays : ℕ → Bool
stays b = is_ascii_alphanumeric b || list_any (λ s. s == b) (codes "-+._")

-- what a file's name has for a byte of the subtype
abbrev pub name_byte : ℕ → ℕ
name_byte b = if stays b then b else 95

-- the message's number, the path with a dot before each of its numbers, a dot and the subtype
abbrev pub whole_name : ℕ → List ℕ → List ℕ → List ℕ
whole_name number path subtype = decimal number ++ dotted path ++ 46 ∷ map name_byte (encode_utf8_all subtype)

-- the same in 255 bytes at most
unfoldable pub name_of : ℕ → List ℕ → List ℕ → List ℕ
name_of number path subtype = take 255 (whole_name number path subtype)

-- the line that says that the part at this path is stored in the file of this name
unfoldable pub line_for : ℕ → List ℕ → List ℕ → List ℕ
line_for number path name =
    codes "storing message " ++ decimal number ++ codes " part " ++ path_text path ++ codes " as file " ++ name ++ 10
    ∷ []

-- a file, and the line that tells of it
pub record StoredFile : Type 0 where
  pub name : List ℕ
  pub content : List ℕ
  pub line : List ℕ

-- the file of a part
abbrev pub file_of : ℕ → PartView → StoredFile
file_of number part =
    let name = name_of number part.path part.subtype in
    record { name = name; content = part.content; line = line_for number part.path name }

-- the files that the parts of a message are stored in, where these paths are wanted
abbrev pub files_of : ℕ → List (List ℕ) → List ℕ → List StoredFile
files_of number wanted message = map (file_of number) (stored wanted (parts_of message))
