-- How far a message goes, by places.
use Rattle.std.specs.Prelude.{ℕ, ◌+◌, ◌≤◌, List, [], ◌∷◌, if◌then◌else◌}
use Rattle.mbox_drop.specs.Places.{turn, is_inside, place_after}
use Rattle.mbox_drop.specs.declared.place.DropState.{DropState}
use Rattle.mbox_drop.specs.declared.place.Turn.{Turn}
use Rattle.mbox_drop.specs.declared.place.Turn.TheVariants.{Joins, Empties, Begins, Passes}
use Rattle.mbox_drop.specs.declared.find.Found.{Found}
use Rattle.mbox_drop.specs.declared.find.Found.TheVariants.{Cut, End}
use Rattle.mbox_drop.specs.declared.find.Skipped.{Skipped}

abbrev pub found_by : ℕ → ℕ → ℕ → Turn → Found
found_by base body i (Joins place) = End place body
found_by base body i (Empties place) = End place (base + i)
found_by base body i Begins = Cut body (i + 1)
found_by base body i (Passes place) = End place body

abbrev pub found_more : ℕ → Found → ℕ → ℕ → Found
found_more base (Cut body next) i b = Cut body next
found_more base (End place body) i b = found_by base body i (turn place b)

-- a search that has come to byte i, over the bytes that are left
unfoldable pub found : ℕ → Found → ℕ → List ℕ → Found
found base f i [] = f
found base f i (b ∷ rest) = found base (found_more base f i b) (i + 1) rest

-- the search ended within these many bytes, with `base` bytes before them
abbrev pub IsWithin : ℕ → ℕ → Found → Type 0
IsWithin base count (Cut body next) = (body ≤ base + count) × (next ≤ count) × (1 ≤ next)
IsWithin base count (End place body) = body ≤ base + count

-- the same before a message
unfoldable pub skipped : DropState → ℕ → List ℕ → Skipped
skipped place i [] = record { place = place; next = i }
skipped place i (b ∷ rest) =
    if is_inside place then record { place = place; next = i } else skipped (place_after (turn place b)) (i + 1) rest
