-- A leap over the bytes of a line.
use Rattle.std.specs.Prelude.{◌≡◌, ◌-◌, ◌≤◌, ◌==◌, ℕ, false, List, [], ◌∷◌, length, take, drop}
use Rattle.mbox_drop.specs.Places.{is_middle}
use Rattle.mbox_drop.specs.declared.place.DropState.{DropState}

-- bytes with no LF
abbrev pub HasNoEnd : List ℕ → Type 0
HasNoEnd [] = Unit {0}
HasNoEnd (b ∷ rest) = ((b == 10) ≡ false) × HasNoEnd rest

-- there is no LF between the bytes, and they are the same where the place is not in the middle of a line
pub record IsLeap (place : DropState) (bytes : List ℕ) (from to : ℕ) : Type 0 where
  pub low : from ≤ to
  pub high : to ≤ length bytes
  pub plain : HasNoEnd (take (to - from) (drop from bytes))
  pub still : is_middle place ≡ false → to ≡ from
