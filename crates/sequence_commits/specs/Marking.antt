-- What marks make of sequences, as functions.
use Rattle.std.specs.Prelude.{◌≡◌, ℕ, true, List, [], ◌∷◌, ◌++◌, map}
use Rattle.mh_base.specs.Numbers.{IsMsgNum}
use Rattle.mh_sequences.specs.declared.mark.Mark.{Mark}
use Rattle.mh_sequences.specs.declared.mark.Mark.TheVariants.{Add, Delete, Set, Withdraw, Move, Cur}
use Rattle.mh_sequences.specs.declared.mark.Pair.{Pair}
use Rattle.mh_sequences.specs.Marks.{marked, marked_cur, marked_public}
use Rattle.mh_sequences.specs.Names.{is_seq_name}
use Rattle.mh_sequences.specs.Runs.{AreRuns}
use Rattle.mh_sequences.specs.Sequences.{Marked, Sequence, marked_of, member, public_of}
use Rattle.sequence_commits.specs.Together.{sequences_of}

-- the names of sequences
abbrev pub names_of : List Sequence → List (List ℕ)
names_of users = map (λ s. s.name) users

-- the name that a mark brings
abbrev pub name_in_mark : Mark → List (List ℕ)
name_in_mark (Add name numbers public) = name ∷ []
name_in_mark (Delete name numbers public) = name ∷ []
name_in_mark (Set name numbers public) = name ∷ []
name_in_mark (Withdraw numbers) = []
name_in_mark (Move pairs) = []
name_in_mark (Cur cur) = []

-- the sequences after a mark
unfoldable pub marked_by : Mark → Marked → Marked
marked_by mark m =
    marked_of (sequences_of (name_in_mark mark ++ names_of m.users)
    (λ name. marked mark name (member m.users name))
    (λ name. marked_public mark name (public_of m.users name)))
    (marked_cur mark m.cur)

-- after marks, one after another
unfoldable pub marked_by_all : List Mark → Marked → Marked
marked_by_all [] m = m
marked_by_all (mark ∷ marks) m = marked_by_all marks (marked_by mark m)

-- pairs that move to message numbers
abbrev pub AreTargets : List Pair → Type 0
AreTargets [] = Unit {0}
AreTargets (p ∷ ps) = IsMsgNum p.to × AreTargets ps

-- a mark as code makes it: its name is a sequence's, and its numbers are message numbers
abbrev pub IsValidMark : Mark → Type 0
IsValidMark (Add name numbers public) = (is_seq_name name ≡ true) × AreRuns numbers.runs
IsValidMark (Delete name numbers public) = (is_seq_name name ≡ true) × AreRuns numbers.runs
IsValidMark (Set name numbers public) = (is_seq_name name ≡ true) × AreRuns numbers.runs
IsValidMark (Withdraw numbers) = AreRuns numbers.runs
IsValidMark (Move pairs) = AreTargets pairs
IsValidMark (Cur cur) = Unit {0}
