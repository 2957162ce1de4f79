-- What a reader knows after the bytes of a drop that it has read.
use Rattle.std.specs.Prelude.{ℕ, List, [], ◌∷◌, ◌++◌}
use Rattle.mbox_drop.specs.Places.{turn, ended}
use Rattle.mbox_drop.specs.declared.place.Match.TheVariants.{Nothing}
use Rattle.mbox_drop.specs.declared.place.DropState.{DropState}
use Rattle.mbox_drop.specs.declared.place.DropState.TheVariants.{First, Separator}
use Rattle.mbox_drop.specs.declared.place.Turn.{Turn}
use Rattle.mbox_drop.specs.declared.place.Turn.TheVariants.{Joins, Empties, Begins, Passes}

-- the finished messages, the bytes after the last separator line, those before the last empty line, and the place
pub record Reading : Type 0 where
  pub done : List (List ℕ)
  pub hand : List ℕ
  pub body : List ℕ
  pub place : DropState

abbrev pub at : List (List ℕ) → List ℕ → List ℕ → DropState → Reading
at done hand body place = record { done = done; hand = hand; body = body; place = place }

abbrev pub took : Reading → ℕ → Turn → Reading
took s b (Joins place) = at s.done (s.hand ++ b ∷ []) s.body place
took s b (Empties place) = at s.done (s.hand ++ b ∷ []) s.hand place
took s b Begins = at (s.done ++ s.body ∷ []) [] [] Separator
took s b (Passes place) = at s.done s.hand s.body place

unfoldable pub read : Reading → List ℕ → Reading
read s [] = s
read s (b ∷ rest) = read (took s b (turn s.place b)) rest

abbrev pub unread : Reading
unread = at [] [] [] (First Nothing)

abbrev pub reading : List ℕ → Reading
reading bytes = read unread bytes

-- the finished messages and the last
abbrev pub all_of : Reading → List (List ℕ)
all_of s = s.done ++ ended s.place s.body s.hand ∷ []
