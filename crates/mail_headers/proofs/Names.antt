-- Fields by name.
use Rattle.std.proofs.Common.{◌≡◌, ℕ, true, List, ◌∷◌, map, refl, Some}
use Rattle.std.specs.Char.{to_ascii_lowercase}
use Rattle.std.proofs.lemmas.Slice.Eq.{bytes_eq-Decides}
use Rattle.mail_headers.specs.Fields.{FieldText, first_value, same_name}

-- the first field has the name
pub first_here : (name : List ℕ) (f : FieldText) (fs : List FieldText) → map to_ascii_lowercase f.name ≡ map to_ascii_lowercase name → first_value name (f ∷ fs) ≡ Some f.value
first_here name f fs e =
    let same : same_name f.name name ≡ true = (bytes_eq-Decides (map to_ascii_lowercase f.name) (map to_ascii_lowercase name)).1 e in
    rw same refl
