-- Which messages of a folder a word designates (after nmh's manual page mh-sequence).
use Rattle.std.specs.Prelude.{ℕ, ◌+◌, ◌-◌, ◌==◌, ◌||◌, Bool, true, false, not, nat_le, Option, Some, None, unwrap_or, Result, Ok, Err, List, [], ◌∷◌, length, take, drop, filter, find, slice_get, if◌then◌else◌}
use Rattle.mh_sequences.specs.Sequences.{Marked, member}
use Rattle.msg_ranges.specs.declared.fault.SelectFault.{SelectFault}
use Rattle.msg_ranges.specs.declared.fault.SelectFault.TheVariants.{Absent, EmptyRange, EmptySequence}
use Rattle.msg_ranges.specs.declared.spec.Base.{Base}
use Rattle.msg_ranges.specs.declared.spec.Base.TheVariants.{Number, First, Last, Cur, Prev, Next}
use Rattle.msg_ranges.specs.declared.spec.Way.{Way}
use Rattle.msg_ranges.specs.declared.spec.Way.TheVariants.{Unsigned, Plus, Minus}
use Rattle.msg_ranges.specs.declared.spec.Spot.{Spot}
use Rattle.msg_ranges.specs.declared.spec.Spot.TheVariants.{First as FirstSpot, Last as LastSpot, Next as NextSpot, Prev as PrevSpot}
use Rattle.msg_ranges.specs.declared.spec.Spec.{Spec}
use Rattle.msg_ranges.specs.declared.spec.Spec.TheVariants.{One, Range, Count, All, Sequence, SequenceCount, SequenceSpot, Negated}

-- In all of this `xs` are the numbers of the folder's messages, ascending, and `k` is the place of the word.

-- what sequences mark: which numbers the sequence of a name has, and the current number
pub record Marks : Type 0 where
  pub has : List ℕ → ℕ → Bool
  pub cur : Option ℕ

abbrev pub marks_of : Marked → Marks
marks_of marked = record { has = member marked.users; cur = marked.cur }

-- the numbers that are at least this
abbrev pub from : ℕ → List ℕ → List ℕ
from a xs = filter (λ x. nat_le a x) xs

-- and those that are at most this
abbrev pub up_to : ℕ → List ℕ → List ℕ
up_to a xs = filter (λ x. nat_le x a) xs

-- the last so many, or all where there are fewer
abbrev pub take_last : ℕ → List ℕ → List ℕ
take_last n xs = drop (length xs - n) xs

abbrev pub least : List ℕ → Option ℕ
least xs = slice_get xs 0

abbrev pub greatest : List ℕ → Option ℕ
greatest xs = slice_get xs (length xs - 1)

-- the current number, which counts as 0 where there is none
abbrev pub current : Option ℕ → ℕ
current cur = unwrap_or cur 0

-- the current number, where that message exists
abbrev pub existing : List ℕ → Option ℕ → Option ℕ
existing xs None = None
existing xs (Some cur) = find (λ x. x == cur) xs

-- the number that a name stands for: a number for itself, whether it exists or not, and any other name for an existing
-- one
abbrev pub named : List ℕ → Option ℕ → Base → Option ℕ
named xs cur (Number n) = Some n
named xs cur First = least xs
named xs cur Last = greatest xs
named xs cur Cur = existing xs cur
named xs cur Prev = greatest (up_to (current cur - 1) xs)
named xs cur Next = least (from (current cur + 1) xs)

-- these numbers, or this refusal where there are none
abbrev pub some_or : SelectFault → List ℕ → Result (List ℕ) SelectFault
some_or fault [] = Err fault
some_or fault (x ∷ xs) = Ok (x ∷ xs)

-- the message of a name
abbrev pub one : ℕ → List ℕ → Option ℕ → Result (List ℕ) SelectFault
one k xs None = Err (Absent k)
one k xs (Some n) = some_or (Absent k) (filter (λ x. x == n) xs)

-- the messages from one name to another, both included
abbrev pub between : ℕ → List ℕ → Option ℕ → Option ℕ → Result (List ℕ) SelectFault
between k xs None b = Err (Absent k)
between k xs (Some a) None = Err (Absent k)
between k xs (Some a) (Some b) = some_or (EmptyRange k) (from a (up_to b xs))

-- a count starts at its name and goes up, or ends there, by its sign; without one it ends at `prev` and `last` alone
abbrev pub goes_up : Base → Way → Bool
goes_up a Plus = true
goes_up a Minus = false
goes_up (Number n) Unsigned = true
goes_up First Unsigned = true
goes_up Last Unsigned = false
goes_up Cur Unsigned = true
goes_up Prev Unsigned = false
goes_up Next Unsigned = true

-- so many messages from a number on, or up to it
abbrev pub counted : ℕ → List ℕ → Option ℕ → Bool → ℕ → Result (List ℕ) SelectFault
counted k xs None up n = Err (Absent k)
counted k xs (Some a) up n = some_or (EmptyRange k) (if up then take n (from a xs) else take_last n (up_to a xs))

-- an end of the folder
abbrev pub is_end : Base → Bool
is_end (Number n) = false
is_end First = true
is_end Last = true
is_end Cur = false
is_end Prev = false
is_end Next = false

-- without any message a form with an end of the folder has an empty range, whatever else is in it
abbrev pub unless_void : ℕ → Bool → List ℕ → Result (List ℕ) SelectFault → Result (List ℕ) SelectFault
unless_void k true [] other = Err (EmptyRange k)
unless_void k true (x ∷ xs) other = other
unless_void k false xs other = other

-- the members of a sequence that exist
abbrev pub members : List ℕ → Marks → List ℕ → List ℕ
members xs marks s = filter (λ x. marks.has s x) xs

-- and the messages that are no members
abbrev pub others : List ℕ → Marks → List ℕ → List ℕ
others xs marks s = filter (λ x. not (marks.has s x)) xs

-- so many members from the first on, or up to the last
abbrev pub counted_members : Way → ℕ → List ℕ → List ℕ
counted_members Unsigned n xs = take n xs
counted_members Plus n xs = take n xs
counted_members Minus n xs = take_last n xs

-- the first member or the last, or the nearest above or below the current number
abbrev pub spotted : ℕ → Spot → List ℕ → List ℕ
spotted cur FirstSpot xs = take 1 xs
spotted cur LastSpot xs = take_last 1 xs
spotted cur NextSpot xs = take 1 (from (cur + 1) xs)
spotted cur PrevSpot xs = take_last 1 (up_to (cur - 1) xs)

-- the numbers that a form designates, or why it is refused
abbrev pub chosen : ℕ → List ℕ → Marks → Spec → Result (List ℕ) SelectFault
chosen k xs marks (One a) = unless_void k (is_end a) xs (one k xs (named xs marks.cur a))
chosen k xs marks (Range a b) =
    unless_void k (is_end a || is_end b) xs (between k xs (named xs marks.cur a) (named xs marks.cur b))
chosen k xs marks (Count a way n) = unless_void k (is_end a) xs (counted k xs (named xs marks.cur a) (goes_up a way) n)
chosen k xs marks All = some_or (EmptyRange k) xs
chosen k xs marks (Sequence s) = some_or (EmptySequence k) (members xs marks s)
chosen k xs marks (SequenceCount s way n) = some_or (EmptySequence k) (counted_members way n (members xs marks s))
chosen k xs marks (SequenceSpot s spot) =
    some_or (EmptySequence k) (spotted (current marks.cur) spot (members xs marks s))
chosen k xs marks (Negated s) = some_or (EmptySequence k) (others xs marks s)
