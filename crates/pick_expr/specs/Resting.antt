-- Bytes at which nothing changes.
use Rattle.std.specs.Prelude.{◌≡◌, ℕ, Bool, true, false, List, [], ◌∷◌, slice_index_or}
use Rattle.pick_expr.specs.declared.element.Element.{Element}
use Rattle.pick_expr.specs.declared.places.Places.{Places}
use Rattle.pick_expr.specs.declared.resting.Resting.{Resting}
use Rattle.pick_expr.specs.Masks.{AreMasksOf}
use Rattle.pick_expr.specs.Finishing.{AreFinishing, finishes, found_by}

-- the places are those of more of a line, if they are those of this end of it, and no further piece is found there
abbrev pub Passes : List Element → Bool → Places → List ℕ → List ℕ → Type 0
Passes elements to_end places line more = AreFinishing elements to_end line places
    → AreFinishing elements to_end more places
    × (found_by (finishes elements to_end) more ≡ found_by (finishes elements to_end) line)

-- the bytes that are marked change nothing
abbrev pub AreIdle : List Element → Bool → Places → List Bool → Type 0
AreIdle elements to_end places idle = (byte : ℕ) → slice_index_or idle byte false ≡ true
    → (line : List ℕ) → AreFinishing elements to_end line places → AreFinishing elements to_end (byte ∷ line) places

-- what is held of these elements is true
pub record IsResting (elements : List Element) (to_end : Bool) (r : Resting) : Type 0 where
  pub last : AreFinishing elements to_end [] r.last
  pub idle : AreIdle elements to_end r.rest r.idle
  pub masks : AreMasksOf elements to_end r.masks
