-- The value of the first field of a name, among fields that were found once.
use Rattle.std.proofs.Common.{◌≡◌, ◌+◌, ◌<◌, ◌≤◌, ◌∷◌, [], ℕ, suc, Bool, true, false, List, Some, None, length, get_or, drop, map, add-one, refl, sym, ◌∙◌, ap}
use Rattle.std.specs.Prelude.{if◌then◌else◌}
use Rattle.std.specs.Char.{to_ascii_lowercase}
use Rattle.std.proofs.Math.Seq.{drop-cons}
use Rattle.std.proofs.lemmas.List.{drop_all}
use Rattle.std.proofs.lemmas.Slice.Eq.{bytes_eq-Decides}
use Rattle.mail_headers.specs.Fields.{FieldText, fields_of, first_value, same_name}
use Rattle.mail_headers.specs.View.{field_text}
use Rattle.mail_headers.specs.declared.field.Field.{Field}

-- the names are the same
abbrev pub AreAlike : List ℕ → List ℕ → Type 0
AreAlike a b = map to_ascii_lowercase a ≡ map to_ascii_lowercase b

here : (name : List ℕ) (f : FieldText) (fs : List FieldText) → AreAlike f.name name → first_value name (f ∷ fs) ≡ Some f.value
here name f fs e =
    let same : same_name f.name name ≡ true = (bytes_eq-Decides (map to_ascii_lowercase f.name) (map to_ascii_lowercase name)).1 e in
    rw same refl

behind : (name : List ℕ) (f : FieldText) (fs : List FieldText) (r : Bool) → (AreAlike f.name name → r ≡ true) → r ≡ false → first_value name (f ∷ fs) ≡ first_value name fs
behind name f fs r would no_so = go (same_name f.name name) refl
  where
    go : (b : Bool) → same_name f.name name ≡ b → (if b then Some f.value else first_value name fs) ≡ first_value name fs
    go false e = refl
    go true e = absurd (let other : true ≡ false = sym (would ((bytes_eq-Decides (map to_ascii_lowercase f.name) (map to_ascii_lowercase name)).0 e)) ∙ no_so in cc (other))

next : (items : List Field) (i : ℕ) (d : Field) → i < length items → drop i items ≡ get_or items i d ∷ drop (i + 1) items
next items i d lt = rw (add-one, drop-cons items i d) refl

-- the fields of the message are these
pub indexed : (name : List ℕ) (items inside : List Field) (message self : List ℕ) → items ≡ inside → map field_text inside ≡ fields_of message → message ≡ self → first_value name (fields_of self) ≡ first_value name (map field_text items)
indexed name items inside message self same found is = ap (λ m. first_value name (fields_of m)) (sym is) ∙ ap (first_value name) (sym found) ∙ ap (λ l. first_value name (map field_text l)) (sym same)

-- this one has the name
pub met : (name : List ℕ) (items : List Field) (i : ℕ) (d : Field) → i < length items → AreAlike (get_or items i d).name.now name
    → first_value name (map field_text (drop i items)) ≡ first_value name (map field_text items) → first_value name (map field_text items) ≡ Some (get_or items i d).value.now
met name items i d lt alike left =
    sym left ∙ ap (λ l. first_value name (map field_text l)) (next items i d lt) ∙ here name (field_text (get_or items i d)) (map field_text (drop (i + 1) items)) alike

-- it has not
pub passed : (name : List ℕ) (items : List Field) (i : ℕ) (d : Field) (r : Bool) → i < length items → (AreAlike (get_or items i d).name.now name → r ≡ true) → r ≡ false
    → first_value name (map field_text (drop i items)) ≡ first_value name (map field_text items) → first_value name (map field_text (drop (i + 1) items)) ≡ first_value name (map field_text items)
passed name items i d r lt would no_so left =
    sym (behind name (field_text (get_or items i d)) (map field_text (drop (i + 1) items)) r would no_so) ∙ ap (λ l. first_value name (map field_text l)) (sym (next items i d lt)) ∙ left

-- none has
pub none_met : (name : List ℕ) (items : List Field) (i : ℕ) → length items ≤ i → first_value name (map field_text (drop i items)) ≡ first_value name (map field_text items) → first_value name (map field_text items) ≡ None
none_met name items i le left = sym left ∙ ap (λ l. first_value name (map field_text l)) (drop_all i items le)
