-- Names that stand once, and destinations one behind the other.
use Rattle.std.proofs.Common.{◌≡◌, ◌++◌, ◌∷◌, [], ℕ, List, sym}
use Rattle.folder_files.specs.declared.place.Place.{Place}
use Rattle.file_plans.specs.Contents.{Contents}
use Rattle.message_moves.specs.declared.destination.Destination.{Destination}
use Rattle.message_moves.proofs.RefiledGiven.{IsElsewhere}
use Rattle.refile_plans.proofs.Roomy.{AreRoomy, IsRoomy}

-- each of these names is another than this one
abbrev pub NotAmong : List ℕ → List (List ℕ) → Type 0
NotAmong name [] = Unit {0}
NotAmong name (other ∷ others) = (other ≡ name → ⊥) × NotAmong name others

-- no name stands there twice
abbrev pub AreDistinct : List (List ℕ) → Type 0
AreDistinct [] = Unit {0}
AreDistinct (name ∷ names) = NotAmong name names × AreDistinct names

-- there is one at least
abbrev pub IsFilled : List Destination → Type 0
IsFilled [] = ⊥
IsFilled (to ∷ others) = Unit {0}

-- one stands there, or is to come
abbrev pub IsAny : List (List ℕ) → List Destination → Type 0
IsAny [] to = IsFilled to
IsAny (name ∷ names) to = Unit {0}

-- one more stands behind them
filled_behind : (to : List Destination) (t : Destination) → IsFilled (to ++ t ∷ [])
filled_behind [] t = tt
filled_behind (x ∷ to) t = tt

pub any_behind : (names : List (List ℕ)) (to : List Destination) (t : Destination) → IsAny names (to ++ t ∷ [])
any_behind [] to t = filled_behind to t
any_behind (name ∷ names) to t = tt

-- a place that is none of them nor this one
pub elsewhere_behind : (q : Place) (to : List Destination) (t : Destination) → IsElsewhere q to → (q ≡ t.place → ⊥) → IsElsewhere q (to ++ t ∷ [])
elsewhere_behind q [] t off away = (away, tt)
elsewhere_behind q (x ∷ to) t off away = (off.0, elsewhere_behind q to t off.1 away)

-- one more with room
pub roomy_behind : (path : List ℕ) (c : Contents) (to : List Destination) (t : Destination) (count : ℕ) → AreRoomy path c to count → IsElsewhere t.place to → IsRoomy path c t count → AreRoomy path c (to ++ t ∷ []) count
roomy_behind path c [] t count all off r = (r, tt, tt)
roomy_behind path c (x ∷ to) t count all off r = (all.0, elsewhere_behind x.place to t all.1 (λ e. off.0 (sym e)), roomy_behind path c to t count all.2 off.1 r)
