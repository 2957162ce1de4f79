-- Whether the beginning of a line fits, as a test.
use Rattle.std.specs.Prelude.{◌≡◌, ℕ, ◌≤◌, ◌&&◌, ◌||◌, Bool, true, false, not, List, [], ◌∷◌, length, drop, if◌then◌else◌}
use Rattle.pick_expr.specs.declared.element.Element.{Element}
use Rattle.pick_expr.specs.declared.element.Element.TheVariants.{Once, AnyNumber}
use Rattle.pick_expr.specs.declared.places.Places.{Places}
use Rattle.pick_expr.specs.Atoms.{admits}
use Rattle.pick_expr.specs.Fitting.{Shape}
use Rattle.pick_expr.specs.Places.{has_place}

-- a byte that is admitted, and then the rest
abbrev pub once_by : (ℕ → Bool) → (List ℕ → Bool) → List ℕ → Bool
once_by admitted rest [] = false
once_by admitted rest (b ∷ line) = admitted b && rest line

-- bytes that are admitted, and then the rest
abbrev pub any_number_by : (ℕ → Bool) → (List ℕ → Bool) → List ℕ → Bool
any_number_by admitted rest [] = rest []
any_number_by admitted rest (b ∷ line) = rest (b ∷ line) || (admitted b && any_number_by admitted rest line)

-- nothing is left, or it doesn't matter
abbrev pub ends_by : Bool → List ℕ → Bool
ends_by to_end [] = true
ends_by to_end (b ∷ line) = not to_end

-- the elements fit a piece with which the line begins, and which is all of it if it is to end there
abbrev pub finishes : List Element → Bool → List ℕ → Bool
finishes [] to_end = ends_by to_end
finishes (Once a ∷ rest) to_end = once_by (admits a) (finishes rest to_end)
finishes (AnyNumber a ∷ rest) to_end = any_number_by (admits a) (finishes rest to_end)

-- the test holds somewhere in the line
abbrev pub found_by : (List ℕ → Bool) → List ℕ → Bool
found_by test [] = test []
found_by test (b ∷ line) = test (b ∷ line) || found_by test line

-- some piece of the line fits the pattern
abbrev pub is_match : Shape → List ℕ → Bool
is_match p line = if p.from_start then finishes p.elements p.to_end line
    else found_by (finishes p.elements p.to_end) line

abbrev pub starred : Element → Bool
starred (Once a) = false
starred (AnyNumber a) = true

-- an element and the rest fit at a byte
abbrev pub goes_on : Element → ℕ → Bool → Bool → Bool → Bool
goes_on (Once a) b here behind behind_now = admits a b && behind
goes_on (AnyNumber a) b here behind behind_now = behind_now || (admits a b && here)

-- the places from which the elements that are left fit this line's beginning
abbrev pub AreFinishing : List Element → Bool → List ℕ → Places → Type 0
AreFinishing elements to_end line places = (i : ℕ) → i ≤ length elements
    → has_place places i ≡ finishes (drop i elements) to_end line
