-- Names of header fields.
use Rattle.std.proofs.Common.{◌≡◌, ℕ, Bool, true, false, List, [], ◌∷◌, refl, sym, arith}
use Rattle.std.specs.Prelude.{◌↔◌, IsTrue}
use Rattle.mh_profile.specs.Names.{IsFieldName}
use Rattle.command_words.specs.FieldNames.{is_name}

name_is : (bytes : List ℕ) → IsFieldName bytes → is_name bytes ≡ true
name_is [] n = absurd (omega (arith, n.some))
name_is (b ∷ bytes) n = n.clean

is_one : (bytes : List ℕ) → is_name bytes ≡ true → IsFieldName bytes
is_one [] e = cc (e)
is_one (b ∷ bytes) e = record { some = omega arith; clean = e }

pub decides : (r : Bool) (bytes : List ℕ) → (IsTrue r ↔ IsFieldName bytes) → r ≡ is_name bytes
decides true bytes f = sym (name_is bytes (f.0 refl))
decides false bytes f = go (is_name bytes) refl
  where
    go : (c : Bool) → is_name bytes ≡ c → false ≡ is_name bytes
    go true e = let no : false ≡ true = f.1 (is_one bytes e) in cc (no)
    go false e = sym e
