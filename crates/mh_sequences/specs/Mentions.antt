-- Runs that a text and the context give sequences.
use Rattle.std.specs.Prelude.{◌≡◌, ℕ, ◌&&◌, ◌||◌, Bool, true, bytes_eq, IsTrue, List, [], ◌∷◌}
use Rattle.std.specs.List.{All, list_any}
use Rattle.mh_sequences.specs.declared.mention.Mention.{Mention}
use Rattle.mh_sequences.specs.declared.run.Run.{Run}
use Rattle.mh_sequences.specs.declared.join.Join.TheVariants.{Either}
use Rattle.mh_sequences.specs.Joins.{joins}
use Rattle.mh_sequences.specs.Lists.{lists}
use Rattle.mh_sequences.specs.Names.{is_seq_name}
use Rattle.mh_sequences.specs.Placing.{placed}
use Rattle.mh_sequences.specs.Runs.{AreRuns, has, inside, IsRun}
use Rattle.mh_sequences.specs.Sequences.{AreSequences, Sequence, member, public_of}

-- one of them gives the sequence of this name the number
abbrev pub given : List Mention → List ℕ → ℕ → Bool
given mentions name n = list_any (λ m. bytes_eq m.name.now name && inside m.run n) mentions

-- a run under a sequence's name
pub record IsMention (m : Mention) : Type 0 where
  pub name : is_seq_name m.name.now ≡ true
  pub run : IsRun m.run

-- the runs were noted under a name
pub record AreNoted (name : List ℕ) (runs : List Run) (old new : List Mention) : Type 0 where
  pub valid : All IsMention new
  pub given : (s : List ℕ) (n : ℕ) → given new s n ≡ (given old s n || (bytes_eq name s && has runs n))

-- the runs of a list were noted under a name, where it is a sequence's
pub record IsMentioned (name list : List ℕ) (old new : List Mention) : Type 0 where
  pub valid : All IsMention new
  pub given : (s : List ℕ) (n : ℕ)
      → given new s n ≡ (given old s n || (is_seq_name s && (bytes_eq name s && lists list n)))

-- a run was added to the sequence of a name
pub record IsRunAdded (name : List ℕ) (run : Run) (public : Bool) (old new : List Sequence) : Type 0 where
  pub runs : List Run
  pub valid : AreRuns runs
  pub numbers : (n : ℕ) → has runs n ≡ joins Either (member old name n) (has (run ∷ []) n)
  pub put : new ≡ placed name public runs old

-- the sequences that mentions make, public where the rule says so of the name
pub record IsGathered (rule : List ℕ → Bool) (mentions : List Mention) (users : List Sequence) : Type 0 where
  pub valid : AreSequences users
  pub numbers : (name : List ℕ) (n : ℕ) → member users name n ≡ given mentions name n
  pub public : (name : List ℕ) (n : ℕ) → IsTrue (member users name n) → public_of users name ≡ rule name
