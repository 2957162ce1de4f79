-- The files of the parts that are stored.
use Rattle.std.proofs.Common.{◌≡◌, ◌∷◌, [], ℕ, List, map, refl, sym, ◌∙◌, ap}
use Rattle.part_rows.specs.Choices.{stored}
use Rattle.part_rows.specs.FileNames.{StoredFile, file_of, files_of}
use Rattle.part_rows.specs.PartViews.{PartView, parts_of}

module _ {A : Type 0} (view : A → PartView) (file : PartView → StoredFile) where
  map_both : (l : List A) → map (λ p. file (view p)) l ≡ map file (map view l)
  map_both [] = refl
  map_both (p ∷ l) = ap (λ fs. file (view p) ∷ fs) (map_both l)

pub files_are : {A : Type 0} (n : ℕ) (wanted : List (List ℕ)) (message : List ℕ) (view : A → PartView) (parts : List A) → map view parts ≡ stored wanted (parts_of message) → files_of n wanted message ≡ map (λ p. file_of n (view p)) parts
files_are n wanted message view parts is = sym (map_both view (file_of n) parts ∙ ap (map (file_of n)) is)
