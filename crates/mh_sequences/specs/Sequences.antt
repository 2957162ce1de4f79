-- Sequences as contracts see them, and what is told of them by name.
use Rattle.std.specs.Prelude.{◌≡◌, ℕ, ◌≤◌, Bool, true, bytes_eq, Option, List, [], ◌∷◌, length, if◌then◌else◌}
use Rattle.std.specs.Ordering.{nat_cmp}
use Rattle.std.specs.declared.cmp.Ordering.{Ordering}
use Rattle.std.specs.declared.cmp.Ordering.TheVariants.{Less}
use Rattle.std.specs.Cmp.Lexicographic.{slice_cmp}
use Rattle.mh_sequences.specs.declared.run.Run.{Run}
use Rattle.mh_sequences.specs.declared.user.User.{User}
use Rattle.mh_sequences.specs.declared.user_sequence.UserSequence.{UserSequence}
use Rattle.mh_sequences.specs.Names.{is_seq_name}
use Rattle.mh_sequences.specs.Runs.{AreRuns, has}

-- a sequence: its name, the runs of its numbers, and whether it is public
pub record Sequence : Type 0 where
  pub name : List ℕ
  pub runs : List Run
  pub public : Bool

abbrev pub told : User → Sequence
told u = record { name = u.name; runs = u.numbers.runs; public = u.public }

-- the same of a sequence under its name
abbrev pub told_entry : List ℕ × UserSequence → Sequence
told_entry e = record { name = e.0; runs = e.1.numbers.runs; public = e.1.public }

-- how two names stand to one another in byte order
abbrev pub order : List ℕ → List ℕ → Ordering
order a b = slice_cmp nat_cmp a b

-- a name, and a set that is not empty
pub record IsSequence (s : Sequence) : Type 0 where
  pub name : is_seq_name s.name ≡ true
  pub some : 1 ≤ length s.runs
  pub runs : AreRuns s.runs

-- the name stands before all of these in byte order
abbrev pub Precedes : List ℕ → List Sequence → Type 0
Precedes name [] = Unit {0}
Precedes name (s ∷ ss) = (order name s.name ≡ Less) × Precedes name ss

-- sequences in byte order of their names, no two of one name
abbrev pub AreSequences : List Sequence → Type 0
AreSequences [] = Unit {0}
AreSequences (s ∷ ss) = IsSequence s × Precedes s.name ss × AreSequences ss

-- what is told of the sequence of this name, or else where there is none
abbrev pub told_of : {X : Type 0} → (Sequence → X) → X → List Sequence → List ℕ → X
told_of tell none [] name = none
told_of tell none (s ∷ ss) name = if bytes_eq name s.name then tell s else told_of tell none ss name

-- the runs of the sequence of this name: none where there is no such sequence
abbrev pub runs_of : List Sequence → List ℕ → List Run
runs_of ss name = told_of (λ s. s.runs) [] ss name

-- whether it is public; one that is not there counts as public
abbrev pub public_of : List Sequence → List ℕ → Bool
public_of ss name = told_of (λ s. s.public) true ss name

-- the number is in the sequence of this name
abbrev pub member : List Sequence → List ℕ → ℕ → Bool
member ss name n = has (runs_of ss name) n

-- all user sequences, and the current message
pub record Marked : Type 0 where
  pub users : List Sequence
  pub cur : Option ℕ

abbrev pub marked_of : List Sequence → Option ℕ → Marked
marked_of users cur = record { users = users; cur = cur }
