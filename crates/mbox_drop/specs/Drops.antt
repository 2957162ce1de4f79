-- A drop of mail: its lines, its separators and its messages.
use Rattle.std.specs.Prelude.{ℕ, ◌==◌, ◌&&◌, ◌||◌, ◌-◌, ◌++◌, Bool, true, false, bytes_eq, List, [], ◌∷◌, length, map, take, codes, if◌then◌else◌, IsTrue}
use Rattle.std.specs.List.{concat}

-- the byte is added to the first line, or begins one
abbrev pub onto_first : ℕ → List (List ℕ) → List (List ℕ)
onto_first b [] = (b ∷ []) ∷ []
onto_first b (line ∷ rest) = (b ∷ line) ∷ rest

-- the lines of a text, each with its end: a line ends with LF or with the text
unfoldable pub lines : List ℕ → List (List ℕ)
lines [] = []
lines (b ∷ rest) = if b == 10 then (b ∷ []) ∷ lines rest else onto_first b (lines rest)

-- a line of no other byte than its end, which is LF or CR LF
abbrev pub is_empty_line : List ℕ → Bool
is_empty_line line = bytes_eq line (10 ∷ []) || bytes_eq line (13 ∷ 10 ∷ [])

-- a line that begins `From `, with its space
abbrev pub begins_from : List ℕ → Bool
begins_from line = bytes_eq (take 5 line) (codes "From ")

-- lines cut at the separators: the lines before the first, and then for each the lines after it
pub record Sections : Type 0 where
  pub before : List (List ℕ)
  pub parts : List (List (List ℕ))

abbrev pub opened : Sections → Sections
opened s = record { before = []; parts = s.before ∷ s.parts }

abbrev pub added : List ℕ → Sections → Sections
added line s = record { before = line ∷ s.before; parts = s.parts }

-- a separator is a line that begins `From ` and is the first or follows an empty line
unfoldable pub sections : Bool → List (List ℕ) → Sections
sections after_empty [] = record { before = []; parts = [] }
sections after_empty (line ∷ rest) =
    if begins_from line && after_empty then opened (sections false rest)
    else added line (sections (is_empty_line line) rest)

-- the lines without the last, where that one is empty
abbrev pub without_last_empty : List (List ℕ) → List (List ℕ)
without_last_empty [] = []
without_last_empty (line ∷ []) = if is_empty_line line then [] else line ∷ []
without_last_empty (line ∷ (next ∷ rest)) = line ∷ without_last_empty (next ∷ rest)

-- the lines after each separator
unfoldable pub parts : List ℕ → List (List (List ℕ))
parts bytes = (sections true (lines bytes)).parts

abbrev pub message_of : List (List ℕ) → List ℕ
message_of part = concat (without_last_empty part)

-- the messages of a drop: before a separator, and where the drop ends, one empty line is left out
unfoldable pub messages : List ℕ → List (List ℕ)
messages bytes = map message_of (parts bytes)

-- a drop is empty or begins with a separator
unfoldable pub is_drop : List ℕ → Bool
is_drop [] = true
is_drop (b ∷ rest) = begins_from (b ∷ rest)

-- bytes with which some drop begins
abbrev pub BeginsDrop : List ℕ → Type 0
BeginsDrop bytes = (rest : List ℕ) × IsTrue (is_drop (bytes ++ rest))

-- the messages that a later separator follows
unfoldable pub finished : List ℕ → List (List ℕ)
finished bytes = take (length (messages bytes) - 1) (messages bytes)

-- the bytes of the last of the parts, or these where there is none
abbrev pub last_bytes : List ℕ → List (List (List ℕ)) → List ℕ
last_bytes bytes [] = bytes
last_bytes bytes (part ∷ rest) = last_bytes (concat part) rest

-- the bytes after the last separator line; none before that line has ended
unfoldable pub open_bytes : List ℕ → List ℕ
open_bytes bytes = last_bytes [] (parts bytes)
