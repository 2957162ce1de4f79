-- Sequences as text.
use Rattle.std.specs.Prelude.{◌≡◌, ◌↔◌, ℕ, ◌==◌, ◌&&◌, Bool, true, false, not, Option, None, Some, List, [], ◌∷◌, ◌++◌, decimal, codes, map, filter, if◌then◌else◌}
use Rattle.std.specs.List.{flat_map, Contains}
use Rattle.std.specs.Ordering.{is_lt}
use Rattle.mh_profile.specs.declared.named_value.NamedValue.{NamedValue}
use Rattle.mh_profile.specs.Printing.{printed}
use Rattle.mh_sequences.specs.declared.run.Run.{Run}
use Rattle.mh_sequences.specs.Reading.{attribute}
use Rattle.mh_sequences.specs.Names.{is_seq_name}
use Rattle.mh_sequences.specs.Sequences.{Sequence, Marked, order}

-- a run of one number is that number, and any other its first and its last with a dash between
abbrev pub run_text : Run → List ℕ
run_text r = if r.from == r.to then decimal r.from else decimal r.from ++ (45 ∷ decimal r.to)

-- the runs, with one space between
abbrev pub list_text : List Run → List ℕ
list_text [] = []
list_text (r ∷ rs) = run_text r ++ flat_map (λ s. 32 ∷ run_text s) rs

-- the name stands before `cur` in byte order
abbrev pub is_before_cur : List ℕ → Bool
is_before_cur name = is_lt (order name (codes "cur"))

-- public, and on this side of `cur`
abbrev pub is_shown : Bool → Sequence → Bool
is_shown true s = s.public && is_before_cur s.name
is_shown false s = s.public && not (is_before_cur s.name)

abbrev pub is_private : Sequence → Bool
is_private s = not s.public

abbrev pub entry_of : Sequence → NamedValue
entry_of s = record { name = s.name; value = list_text s.runs }

abbrev pub private_entry : List ℕ → Sequence → NamedValue
private_entry ending s = record { name = attribute ending s.name; value = list_text s.runs }

abbrev pub cur_entry : Option ℕ → List NamedValue
cur_entry None = []
cur_entry (Some n) = record { name = codes "cur"; value = decimal n } ∷ []

-- the public sequences and the current message in byte order of the names
abbrev pub public_entries : Marked → List NamedValue
public_entries m =
    map entry_of (filter (is_shown true) m.users) ++ (cur_entry m.cur ++ map entry_of (filter (is_shown false) m.users))

-- a line for each
abbrev pub text_of : Marked → List ℕ
text_of m = printed (public_entries m)

-- the private sequences as entries of the context
abbrev pub private_entries : List ℕ → List Sequence → List NamedValue
private_entries ending users = map (private_entry ending) (filter is_private users)

-- an entry of a sequence of the folder
abbrev pub IsSequenceEntry : List ℕ → NamedValue → Type 0
IsSequenceEntry ending e = (name : List ℕ) × (is_seq_name name ≡ true) × (e.name ≡ attribute ending name)

-- of the folder's sequences the context has just these entries, in whatever order and beside whatever others
abbrev pub HasJust : List ℕ → List NamedValue → List NamedValue → Type 0
HasJust ending entries context = (e : NamedValue) → IsSequenceEntry ending e → Contains context e ↔ Contains entries e
