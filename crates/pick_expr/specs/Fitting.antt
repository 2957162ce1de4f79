-- What a pattern means: the pieces of lines that it fits.
use Rattle.std.specs.Prelude.{◌≡◌, ℕ, Bool, IsTrue, List, [], ◌∷◌, ◌++◌}
use Rattle.std.specs.List.{list_all}
use Rattle.pick_expr.specs.declared.element.Element.{Element}
use Rattle.pick_expr.specs.declared.element.Element.TheVariants.{Once, AnyNumber}
use Rattle.pick_expr.specs.Atoms.{admits}

-- atoms with their stars, and whether their piece stands at the line's start and at its end
pub record Shape : Type 0 where
  pub elements : List Element
  pub from_start : Bool
  pub to_end : Bool

-- no elements fit the empty piece; an atom and the rest fit a byte that it admits before what the rest fits; a starred
-- atom and the rest fit any bytes that it admits before what the rest fits
abbrev pub Fits : List Element → List ℕ → Type 0
Fits [] piece = piece ≡ []
Fits (Once a ∷ rest) piece = (b : ℕ) × (back : List ℕ) × (piece ≡ b ∷ back) × IsTrue (admits a b) × Fits rest back
Fits (AnyNumber a ∷ rest) piece = (front : List ℕ) × (back : List ℕ) × (piece ≡ front ++ back)
    × IsTrue (list_all (admits a) front) × Fits rest back

-- some piece of the line fits, with nothing before it where the pattern is anchored at the start, and nothing behind it
-- where it is anchored at the end
pub record Matches (pattern : Shape) (line : List ℕ) : Type 0 where
  pub before : List ℕ
  pub piece : List ℕ
  pub behind : List ℕ
  pub split : line ≡ before ++ (piece ++ behind)
  pub fits : Fits pattern.elements piece
  pub at_start : IsTrue pattern.from_start → before ≡ []
  pub at_end : IsTrue pattern.to_end → behind ≡ []
