-- A sequence put at its place among others.
use Rattle.std.specs.Prelude.{◌≡◌, ℕ, ◌+◌, ◌<◌, ◌≤◌, Bool, true, slice_index_or, List, [], ◌∷◌, ◌++◌, length, take, drop}
use Rattle.std.specs.Ordering.{is_lt}
use Rattle.std.specs.declared.cmp.Ordering.{Ordering}
use Rattle.std.specs.declared.cmp.Ordering.TheVariants.{Less, Equal, Greater}
use Rattle.mh_sequences.specs.declared.run.Run.{Run}
use Rattle.mh_sequences.specs.declared.place.Position.{Position}
use Rattle.mh_sequences.specs.declared.place.Position.TheVariants.{At, Before}
use Rattle.mh_sequences.specs.Sequences.{Sequence, runs_of, public_of, order}

-- the sequence alone; nothing where it is empty
abbrev pub alone : List ℕ → Bool → List Run → List Sequence
alone name public [] = []
alone name public (r ∷ rs) = record { name = name; runs = r ∷ rs; public = public } ∷ []

abbrev pub by_order : {X : Type 0} → Ordering → X → X → X → X
by_order Less x y z = x
by_order Equal x y z = y
by_order Greater x y z = z

-- it stands in byte order of the names, in the place of one of its name
abbrev pub placed : List ℕ → Bool → List Run → List Sequence → List Sequence
placed name public runs [] = alone name public runs
placed name public runs (s ∷ ss) =
    by_order (order name s.name) (alone name public runs ++ (s ∷ ss)) (alone name public runs ++ ss)
    (s ∷ placed name public runs ss)

-- the sequence stands before this name
abbrev pub stands_before : List ℕ → Sequence → Bool
stands_before name s = is_lt (order s.name name)

-- the sequence of this name stands at this place
pub record IsAt (name : List ℕ) (ss : List Sequence) (i : ℕ) : Type 0 where
  pub within : i < length ss
  pub put : (public : Bool) (runs : List Run)
      → placed name public runs ss ≡ take i ss ++ (alone name public runs ++ drop (i + 1) ss)
  pub named : (d : Sequence) → (slice_index_or ss i d).name ≡ name
  pub runs : (d : Sequence) → runs_of ss name ≡ (slice_index_or ss i d).runs
  pub public : (d : Sequence) → public_of ss name ≡ (slice_index_or ss i d).public

-- there is none, and one is to stand before this place
pub record IsBefore (name : List ℕ) (ss : List Sequence) (i : ℕ) : Type 0 where
  pub within : i ≤ length ss
  pub put : (public : Bool) (runs : List Run)
      → placed name public runs ss ≡ take i ss ++ (alone name public runs ++ drop i ss)
  pub runs : runs_of ss name ≡ []
  pub public : public_of ss name ≡ true

abbrev pub IsPlace : List ℕ → List Sequence → Position → Type 0
IsPlace name ss (At i) = IsAt name ss i
IsPlace name ss (Before i) = IsBefore name ss i
