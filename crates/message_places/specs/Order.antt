-- The moves that put messages in an order.
use Rattle.std.specs.Prelude.{◌≡◌, ◌==◌, ◌∷◌, [], ℕ, List, map, if◌then◌else◌}
use Rattle.message_places.specs.declared.moves.Move.{Move}

-- the numbers of messages with keys
abbrev pub numbers_of : {K : Type 0} → List (K × ℕ) → List ℕ
numbers_of keyed = map (λ x. x.1) keyed

-- the message that comes k-th goes to the k-th slot, where that is another number than its own
abbrev pub moves_of : List ℕ → List ℕ → List Move
moves_of [] ss = []
moves_of (n ∷ ns) [] = []
moves_of (n ∷ ns) (s ∷ ss) = if n == s then moves_of ns ss else record { from = n; slot = s } ∷ moves_of ns ss

-- what stood at the k-th of the numbers stands at the k-th slot
abbrev pub StandInOrder : {A : Type 0} → (ℕ → A) → (ℕ → A) → List ℕ → List ℕ → Type 0
StandInOrder before after [] ss = Unit {0}
StandInOrder before after (n ∷ ns) [] = Unit {0}
StandInOrder before after (n ∷ ns) (s ∷ ss) = (after s ≡ before n) × StandInOrder before after ns ss
