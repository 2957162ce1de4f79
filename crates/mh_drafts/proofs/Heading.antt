-- The header of a draft, field by field.
use Rattle.std.proofs.Common.{◌≡◌, ℕ, zero, suc, ◌≤◌, true, false, Option, Some, None, List, [], ◌∷◌, length, drop, refl, sym, ◌∙◌, ap, arith, length-drop}
use Rattle.mail_headers.specs.Lines.{folded_len}
use Rattle.mail_headers.specs.Fields.{FieldText, first_field, with_first, fields_of}
use Rattle.mail_headers.specs.Message.{rest_of}
use Rattle.mail_headers.proofs.Walking.{none_in, shorter, same_len, fields_of-step, fields_none, rest_taken, rest_none, one_more}
use Rattle.mh_drafts.specs.Headers.{is_reserved, reserved_with, reserved_up_to, reserved_in}

-- more than enough fields are no other fields
enough : (n m : ℕ) (bytes : List ℕ) → length bytes ≤ n → length bytes ≤ m → reserved_up_to n bytes ≡ reserved_up_to m bytes
enough zero zero bytes p q = refl
enough zero (suc m) [] p q = rw none_in refl
enough zero (suc m) (b ∷ bs) p q = absurd (omega arith)
enough (suc n) zero [] p q = rw none_in refl
enough (suc n) zero (b ∷ bs) p q = absurd (omega arith)
enough (suc n) (suc m) bytes p q =
    ap (reserved_with (first_field bytes) bytes) (enough n m (drop (folded_len bytes) bytes) (shorter bytes n p) (shorter bytes m q))

step : (bytes : List ℕ) → reserved_in bytes ≡ reserved_with (first_field bytes) bytes (reserved_in (drop (folded_len bytes) bytes))
unfolding reserved_in
step bytes =
    enough (length bytes) (suc (length bytes)) bytes (same_len (length bytes)) (one_more (length bytes))
    ∙ ap (reserved_with (first_field bytes) bytes) (enough (length bytes) (length (drop (folded_len bytes) bytes)) (drop (folded_len bytes) bytes) (shorter bytes (length bytes) (one_more (length bytes))) (same_len (length (drop (folded_len bytes) bytes))))

-- where the walk over the fields of a message has come
pub record Walked (bytes rest : List ℕ) (left : List FieldText) : Type 0 where
  pub left_are : left ≡ fields_of rest
  pub rest_is : rest_of rest ≡ rest_of bytes
  pub reserved_is : reserved_in rest ≡ reserved_in bytes
  pub inside : length rest ≤ length bytes

pub walk_starts : (bytes rest : List ℕ) (left : List FieldText) → rest ≡ bytes → left ≡ fields_of bytes → Walked bytes rest left
walk_starts bytes rest left r l = record {
  left_are = l ∙ ap fields_of (sym r);
  rest_is = ap rest_of r;
  reserved_is = ap reserved_in r;
  inside = rw r (same_len (length bytes));
}

-- the fields that are left begin with this one
record Begins (rest : List ℕ) (f : FieldText) (more : List FieldText) : Type 0 where
  pub first : first_field rest ≡ Some f
  pub more_are : more ≡ fields_of (drop (folded_len rest) rest)

begins : (rest : List ℕ) (f : FieldText) (more : List FieldText) → fields_of rest ≡ f ∷ more → Begins rest f more
begins rest f more e = choose (first_field rest) refl
  where
    choose : (o : Option FieldText) → first_field rest ≡ o → Begins rest f more
    choose None none = let h : [] ≡ f ∷ more = sym (fields_none rest none) ∙ e in cc
    choose (Some g) is =
        let h : g ∷ fields_of (drop (folded_len rest) rest) ≡ f ∷ more = sym (fields_of-step rest ∙ ap (λ o. with_first o (fields_of (drop (folded_len rest) rest))) is) ∙ e in
        let same : g ≡ f = cc in
        let others : fields_of (drop (folded_len rest) rest) ≡ more = cc in
        record { first = is ∙ ap Some same; more_are = sym others }

pub walk_stops : (bytes rest : List ℕ) (left more : List FieldText) (f : FieldText) → is_reserved f.name ≡ true → left ≡ f ∷ more → Walked bytes rest left → reserved_in bytes ≡ Some rest
walk_stops bytes rest left more f test e w =
    let b = begins rest f more (sym w.left_are ∙ e) in
    sym w.reserved_is ∙ step rest ∙ ap (λ o. reserved_with o rest (reserved_in (drop (folded_len rest) rest))) b.first ∙ rw test refl

pub walk_goes : (bytes rest behind : List ℕ) (left more : List FieldText) (f : FieldText) (len : ℕ) → is_reserved f.name ≡ false → left ≡ f ∷ more → len ≡ folded_len rest → behind ≡ drop len rest → Walked bytes rest left → Walked bytes behind more
walk_goes bytes rest behind left more f len test e l back w =
    let b = begins rest f more (sym w.left_are ∙ e) in
    let is : behind ≡ drop (folded_len rest) rest = back ∙ ap (λ n. drop n rest) l in
    let inside = w.inside in
    record {
      left_are = b.more_are ∙ ap fields_of (sym is);
      rest_is = rest_taken rest behind (rest_of bytes) f b.first is w.rest_is;
      reserved_is = ap reserved_in is ∙ sym (step rest ∙ ap (λ o. reserved_with o rest (reserved_in (drop (folded_len rest) rest))) b.first ∙ rw test refl) ∙ w.reserved_is;
      inside = rw back (omega (arith, length-drop len rest));
    }

none_first : (rest : List ℕ) → fields_of rest ≡ [] → first_field rest ≡ None
none_first rest e = choose (first_field rest) refl
  where
    choose : (o : Option FieldText) → first_field rest ≡ o → first_field rest ≡ None
    choose None none = none
    choose (Some g) is = let h : g ∷ fields_of (drop (folded_len rest) rest) ≡ [] = sym (fields_of-step rest ∙ ap (λ o. with_first o (fields_of (drop (folded_len rest) rest))) is) ∙ e in cc

pub walk_ends : (bytes rest : List ℕ) (left : List FieldText) → left ≡ [] → Walked bytes rest left → (reserved_in bytes ≡ None) × (rest ≡ rest_of bytes) × (length rest ≤ length bytes)
walk_ends bytes rest left e w =
    let none = none_first rest (sym w.left_are ∙ e) in (
      sym w.reserved_is ∙ step rest ∙ ap (λ o. reserved_with o rest (reserved_in (drop (folded_len rest) rest))) none,
      rest_none rest rest (rest_of bytes) none refl w.rest_is,
      w.inside,
    )
