-- Steps by one set of places for each byte.
use Rattle.std.specs.Prelude.{◌≡◌, ℕ, ◌+◌, ◌<◌, ◌≤◌, ◌==◌, ◌&&◌, Bool, false, not, List, ◌∷◌, length, drop, slice_index_or}
use Rattle.pick_expr.specs.declared.element.Element.{Element}
use Rattle.pick_expr.specs.declared.masks.Masks.{Masks}
use Rattle.pick_expr.specs.declared.places.Places.{Places}
use Rattle.pick_expr.specs.Finishing.{finishes}
use Rattle.pick_expr.specs.Places.{has_place}

-- from a place the elements fit at this byte if the mask has it and those behind the place fit what follows
pub record IsMask (elements : List Element) (byte : ℕ) (mask : Places) : Type 0 where
  pub inside : (i : ℕ) → length elements ≤ i → has_place mask i ≡ false
  pub steps : (to_end : Bool) (line : List ℕ) (i : ℕ) → i < length elements
      → finishes (drop i elements) to_end (byte ∷ line)
      ≡ (has_place mask i && finishes (drop (i + 1) elements) to_end line)

abbrev pub AreMasks : List Element → List Places → Type 0
AreMasks elements masks = (byte : ℕ) (mask : Places) → byte < length masks → mask ≡ slice_index_or masks byte mask
    → IsMask elements byte mask

-- and the place behind all elements is set at each byte, if the piece need not reach the line's end
pub record AreMasksOf (elements : List Element) (to_end : Bool) (m : Masks) : Type 0 where
  pub by_byte : AreMasks elements m.by_byte.items
  pub end : (i : ℕ) → has_place m.end i ≡ (i == length elements && not to_end)
