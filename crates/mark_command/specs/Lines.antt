-- The lines that tell of sequences.
use Rattle.std.specs.Prelude.{ℕ, Bool, true, false, not, List, [], ◌∷◌, ◌++◌, map, filter, codes, decimal, Option, None, Some}
use Rattle.mh_sequences.specs.Printing.{is_before_cur, list_text}
use Rattle.mh_sequences.specs.Sequences.{Marked, Sequence, public_of, runs_of}

-- a list behind a space; nothing where it is empty
abbrev pub spaced : List ℕ → List ℕ
spaced [] = []
spaced (c ∷ cs) = 32 ∷ (c ∷ cs)

abbrev pub privacy : Bool → List ℕ
privacy true = []
privacy false = codes " (private)"

-- the line of a sequence: its name, whether it is private, and its numbers
unfoldable pub line_of : Sequence → List ℕ
line_of s = s.name ++ privacy s.public ++ codes ":" ++ spaced (list_text s.runs) ++ 10 ∷ []

-- the line of the current message
unfoldable pub cur_line : ℕ → List ℕ
cur_line n = codes "cur: " ++ decimal n ++ 10 ∷ []

abbrev pub cur_lines : Option ℕ → List (List ℕ)
cur_lines None = []
cur_lines (Some n) = cur_line n ∷ []

-- on this side of `cur` in byte order
abbrev pub is_beside_cur : Bool → Sequence → Bool
is_beside_cur true s = is_before_cur s.name
is_beside_cur false s = not (is_before_cur s.name)

abbrev pub lines_beside : Bool → List Sequence → List (List ℕ)
lines_beside before users = map line_of (filter (is_beside_cur before) users)

-- all sequences in byte order of their names, with the current message among them
abbrev pub all_lines : Marked → List (List ℕ)
all_lines m = lines_beside true m.users ++ (cur_lines m.cur ++ lines_beside false m.users)

-- the sequence of this name, which may be empty
abbrev pub sequence_of : Marked → List ℕ → Sequence
sequence_of m name = record { name = name; runs = runs_of m.users name; public = public_of m.users name }

-- a line for each of these names, in their order; for all where there are none
abbrev pub lines_for : List (List ℕ) → Marked → List (List ℕ)
lines_for [] m = all_lines m
lines_for (name ∷ names) m = map (λ n. line_of (sequence_of m n)) (name ∷ names)
