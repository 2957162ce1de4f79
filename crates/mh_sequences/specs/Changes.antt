-- One change of every sequence.
use Rattle.std.specs.Prelude.{◌≡◌, ℕ, ◌==◌, ◌&&◌, Bool, not, List, [], ◌∷◌, ◌++◌, Option, bytes_eq, IsTrue, if◌then◌else◌}
use Rattle.std.specs.List.{list_any}
use Rattle.mh_sequences.specs.declared.run.Run.{Run}
use Rattle.mh_sequences.specs.declared.mark.Pair.{Pair}
use Rattle.mh_sequences.specs.declared.change.Change.{Change}
use Rattle.mh_sequences.specs.declared.change.Change.TheVariants.{Keep, Withdraw, Move}
use Rattle.mh_sequences.specs.declared.join.Join.{Join}
use Rattle.mh_sequences.specs.Joins.{joins}
use Rattle.mh_sequences.specs.Marks.{moved, set_to}
use Rattle.mh_sequences.specs.PairOrder.{IsInOrder}
use Rattle.mh_sequences.specs.Placing.{alone}
use Rattle.mh_sequences.specs.Runs.{AreRuns, has}
use Rattle.mh_sequences.specs.Sequences.{Marked, Sequence, member, public_of}

-- the numbers afterwards, by those before
abbrev pub change_of : Change → (ℕ → Bool) → ℕ → Bool
change_of (Keep listing) old n = old n && has listing.now.runs n
change_of (Withdraw numbers) old n = old n && not (has numbers.now.runs n)
change_of (Move pairs sources) old n = moved pairs.now old n

-- the numbers that pairs move
abbrev pub AreSources : List Pair → List Run → Type 0
AreSources pairs sources = (n : ℕ) → has sources n ≡ list_any (λ p. n == p.from) pairs

-- the pairs of a move are in order, and come with the numbers that they move
abbrev pub IsReady : Change → Type 0
IsReady (Keep listing) = Unit {0}
IsReady (Withdraw numbers) = Unit {0}
IsReady (Move pairs sources) = IsInOrder pairs.now × AreSources pairs.now sources.now.runs

-- one set is another changed
abbrev pub IsChanged : ((ℕ → Bool) → ℕ → Bool) → List Run → List Run → Type 0
IsChanged f old new = AreRuns new × ((n : ℕ) → has new n ≡ f (has old) n)

-- each sequence is changed, and is left out where nothing is left of it
abbrev pub IsEach : ((ℕ → Bool) → ℕ → Bool) → List Sequence → List Sequence → Type 0
IsEach f [] ys = ys ≡ []
IsEach f (x ∷ xs) ys =
    (runs : List Run) × (rest : List Sequence) × IsChanged f x.runs runs × (ys ≡ alone x.name x.public runs ++ rest)
    × IsEach f xs rest

-- every sequence has changed so, and nothing else has
pub record IsAllChanged (f : (ℕ → Bool) → ℕ → Bool) (old new : List Sequence) : Type 0 where
  pub numbers : (name : List ℕ) (n : ℕ) → member new name n ≡ f (member old name) n
  pub public : (name : List ℕ) (n : ℕ) → IsTrue (member new name n) → public_of new name ≡ public_of old name

-- absent numbers are dropped from the sequences, and the current message stays
pub record IsCut (listing : List Run) (old new : Marked) : Type 0 where
  pub numbers : (name : List ℕ) (n : ℕ) → member new.users name n ≡ (member old.users name n && has listing n)
  pub public : (name : List ℕ) (n : ℕ) → IsTrue (member new.users name n)
      → public_of new.users name ≡ public_of old.users name
  pub cur : new.cur ≡ old.cur

-- a set is joined to the sequence of this name, and nothing else changes
pub record IsJoined (name : List ℕ) (numbers : List Run) (how : Join) (public : Option Bool)
    (old new : Marked) : Type 0 where
  pub members : (s : List ℕ) (n : ℕ)
      → member new.users s n
      ≡ (if bytes_eq s name then joins how (member old.users s n) (has numbers n) else member old.users s n)
  pub state : (s : List ℕ) (n : ℕ) → IsTrue (member new.users s n)
      → public_of new.users s
      ≡ (if bytes_eq s name then set_to public (public_of old.users s) else public_of old.users s)
  pub cur : new.cur ≡ old.cur
