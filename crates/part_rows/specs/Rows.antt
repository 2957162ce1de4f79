-- The rows that tell of parts. 10 is a line feed, 32 a space and 47 a slash.
use Rattle.std.specs.Prelude.{ℕ, ◌-◌, ◌==◌, List, [], ◌∷◌, ◌++◌, length, take, map, replicate, codes, decimal}
use Rattle.std.specs.List.{suffix_len}
use Rattle.std.specs.Str.{encode_utf8_all}
use Rattle.line_rows.specs.Fields.{field}
use Rattle.mime_tree.specs.declared.odd.Odd.{Odd}
use Rattle.mime_tree.specs.declared.odd.Odd.TheVariants.{None, Unclosed, NoBoundary, TooDeep}
use Rattle.part_rows.specs.declared.columns.Columns.{Columns}
use Rattle.part_rows.specs.Choices.{listed}
use Rattle.part_rows.specs.PartViews.{PartView, parts_of}
use Rattle.part_rows.specs.PathTexts.{path_text}

-- a text with spaces before it in so many columns; a longer one stands whole
abbrev pub right : ℕ → List ℕ → List ℕ
right columns text = replicate (columns - length text) 32 ++ text

-- the columns of a row, with a space between each two: path and type are cut to their columns
unfoldable pub row_of : Columns → List ℕ
row_of c = right 4 c.number ++ 32 ∷ field 7 c.path ++ 32 ∷ field 24 c.content_type ++ 32 ∷ right 8 c.size ++ 32 ∷ c.last

-- a text without the spaces at its end
abbrev pub without_spaces_behind : List ℕ → List ℕ
without_spaces_behind text = take (length text - suffix_len (λ c. c == 32) text) text

-- a row as it is written: in UTF-8, without spaces at its end, with a line feed
abbrev pub line_of : Columns → List ℕ
line_of c = without_spaces_behind (encode_utf8_all (row_of c)) ++ 10 ∷ []

-- the line above the rows
unfoldable pub header : List ℕ
header = line_of (record {
  number = codes "msg";
  path = codes "part";
  content_type = codes "type/subtype";
  size = codes "size";
  last = codes "description";
})

-- what a row says of what is odd about a part
abbrev pub note_of : Odd → List ℕ
note_of None = []
note_of Unclosed = codes "[unclosed]"
note_of NoBoundary = codes "[no boundary]"
note_of TooDeep = codes "[too deep]"

-- two texts, with a space between them where both are there
abbrev pub beside : List ℕ → List ℕ → List ℕ
beside [] note = note
beside (c ∷ text) [] = c ∷ text
beside (c ∷ text) (d ∷ note) = (c ∷ text) ++ 32 ∷ d ∷ note

-- what stands in the columns of a part's row, where this is its message's number
abbrev pub columns_of_part : ℕ → PartView → Columns
columns_of_part number part = record {
  number = decimal number;
  path = path_text part.path;
  content_type = part.kind ++ 47 ∷ part.subtype;
  size = decimal (length part.content);
  last = beside part.description (note_of part.odd);
}

-- a part's row as it is written
abbrev pub part_row : ℕ → PartView → List ℕ
part_row number part = line_of (columns_of_part number part)

-- the rows of the message of this number
abbrev pub rows_of : ℕ → List (List ℕ) → List ℕ → List (List ℕ)
rows_of number wanted message = map (part_row number) (listed wanted (parts_of message))
