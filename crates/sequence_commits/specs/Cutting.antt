-- Sequences without the numbers of messages that are absent, as a function.
use Rattle.std.specs.Prelude.{ℕ, ◌&&◌, Bool, List}
use Rattle.mh_sequences.specs.declared.run.Run.{Run}
use Rattle.mh_sequences.specs.Runs.{has}
use Rattle.mh_sequences.specs.Sequences.{Marked, Sequence, marked_of, member, public_of}
use Rattle.sequence_commits.specs.Marking.{names_of}
use Rattle.sequence_commits.specs.Together.{sequences_of}

-- a number of the sequence of this name that is listed
abbrev pub is_kept : List Run → List Sequence → List ℕ → ℕ → Bool
is_kept listing users name n = member users name n && has listing n

-- the sequences with their listed numbers, and the current message as it was
unfoldable pub cut_to : List Run → Marked → Marked
cut_to listing m = marked_of (sequences_of (names_of m.users) (is_kept listing m.users) (public_of m.users)) m.cur
