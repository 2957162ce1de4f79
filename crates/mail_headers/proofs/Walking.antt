-- The fields, one after another.
use Rattle.std.proofs.Common.{◌≡◌, ℕ, zero, suc, ◌<◌, ◌≤◌, true, false, Option, Some, None, List, [], ◌∷◌, length, drop, refl, sym, ◌∙◌, ap, arith, rules, length-drop}
use Rattle.std.specs.Prelude.{MatchOption, is_some}
use Rattle.std.specs.Iterator.{MakesProgress, item_count}
use Rattle.mail_headers.specs.declared.fields.Fields.{Fields}
use Rattle.mail_headers.specs.Walk.{fields_left}
use Rattle.mail_headers.specs.declared.field.Field.{Field}
use Rattle.mail_headers.specs.View.{field_text, Steps}
use Rattle.mail_headers.specs.Lines.{folded_len}
use Rattle.mail_headers.specs.Fields.{FieldText, field_in, first_field, with_first, fields_up_to, fields_of}
use Rattle.mail_headers.specs.Message.{behind_first, rest_up_to, rest_of}
use Rattle.mail_headers.proofs.Folding.{folded_len-some}

pub none_in : first_field [] ≡ None
unfolding field_in folded_len
none_in = refl

pub shorter : (bytes : List ℕ) (n : ℕ) → length bytes ≤ suc n → length (drop (folded_len bytes) bytes) ≤ n
shorter [] n le = omega (arith, length-drop {A = ℕ})
shorter (b ∷ bs) n le = let some = folded_len-some (b ∷ bs) (omega arith) in omega (arith, length-drop (folded_len (b ∷ bs)) (b ∷ bs))

-- more than enough fields are no other fields
fields_enough : (n m : ℕ) (bytes : List ℕ) → length bytes ≤ n → length bytes ≤ m → fields_up_to n bytes ≡ fields_up_to m bytes
fields_enough zero zero bytes p q = refl
fields_enough zero (suc m) [] p q = rw none_in refl
fields_enough zero (suc m) (b ∷ bs) p q = absurd (omega arith)
fields_enough (suc n) zero [] p q = rw none_in refl
fields_enough (suc n) zero (b ∷ bs) p q = absurd (omega arith)
fields_enough (suc n) (suc m) bytes p q =
    ap (with_first (first_field bytes)) (fields_enough n m (drop (folded_len bytes) bytes) (shorter bytes n p) (shorter bytes m q))

rest_enough : (n m : ℕ) (bytes : List ℕ) → length bytes ≤ n → length bytes ≤ m → rest_up_to n bytes ≡ rest_up_to m bytes
rest_enough zero zero bytes p q = refl
rest_enough zero (suc m) [] p q = rw none_in refl
rest_enough zero (suc m) (b ∷ bs) p q = absurd (omega arith)
rest_enough (suc n) zero [] p q = rw none_in refl
rest_enough (suc n) zero (b ∷ bs) p q = absurd (omega arith)
rest_enough (suc n) (suc m) bytes p q =
    ap (behind_first (first_field bytes) bytes) (rest_enough n m (drop (folded_len bytes) bytes) (shorter bytes n p) (shorter bytes m q))

pub one_more : (n : ℕ) → n ≤ suc n
one_more n = omega arith

pub same_len : (n : ℕ) → n ≤ n
same_len n = omega arith

pub fields_of-step : (bytes : List ℕ) → fields_of bytes ≡ with_first (first_field bytes) (fields_of (drop (folded_len bytes) bytes))
unfolding fields_of
fields_of-step bytes =
    fields_enough (length bytes) (suc (length bytes)) bytes (same_len (length bytes)) (one_more (length bytes))
    ∙ ap (with_first (first_field bytes)) (fields_enough (length bytes) (length (drop (folded_len bytes) bytes)) (drop (folded_len bytes) bytes) (shorter bytes (length bytes) (one_more (length bytes))) (same_len (length (drop (folded_len bytes) bytes))))

pub rest_of-step : (bytes : List ℕ) → rest_of bytes ≡ behind_first (first_field bytes) bytes (rest_of (drop (folded_len bytes) bytes))
unfolding rest_of
rest_of-step bytes =
    rest_enough (length bytes) (suc (length bytes)) bytes (same_len (length bytes)) (one_more (length bytes))
    ∙ ap (behind_first (first_field bytes) bytes) (rest_enough (length bytes) (length (drop (folded_len bytes) bytes)) (drop (folded_len bytes) bytes) (shorter bytes (length bytes) (one_more (length bytes))) (same_len (length (drop (folded_len bytes) bytes))))

-- a field was taken, or none begins there
pub fields_taken : (old new : List ℕ) (f : FieldText) → first_field old ≡ Some f → new ≡ drop (folded_len old) old → fields_of old ≡ f ∷ fields_of new
fields_taken old new f e is = fields_of-step old ∙ rw (e, is) refl

pub fields_none : (old : List ℕ) → first_field old ≡ None → fields_of old ≡ []
fields_none old e = fields_of-step old ∙ rw e refl

pub rest_taken : (old new bytes : List ℕ) (f : FieldText) → first_field old ≡ Some f → new ≡ drop (folded_len old) old → rest_of old ≡ bytes → rest_of new ≡ bytes
rest_taken old new bytes f e is r = sym (rest_of-step old ∙ rw (e, is) refl) ∙ r

pub rest_none : (old new bytes : List ℕ) → first_field old ≡ None → new ≡ old → rest_of old ≡ bytes → new ≡ bytes
rest_none old new bytes e is r = is ∙ sym (rest_of-step old ∙ rw e refl) ∙ r

-- what is taken is some bytes
pub taken_shorter : (old new : List ℕ) (f : FieldText) → first_field old ≡ Some f → new ≡ drop (folded_len old) old → length new < length old
taken_shorter [] new f e is = let h : None ≡ Some f = sym none_in ∙ e in cc
taken_shorter (b ∷ bs) new f e is = let some = folded_len-some (b ∷ bs) (omega arith) in rw is (omega (arith, length-drop (folded_len (b ∷ bs)) (b ∷ bs)))

-- a step gives the first of the fields that were left
pub yields : (old new : List ℕ) (r : Option Field) → Steps old new r → MatchOption r ((fields_of old ≡ []) × (fields_of new ≡ [])) (λ f. fields_of old ≡ field_text f ∷ fields_of new)
yields old new None s = let e = fields_none old s.0 in (e, rw s.1 e)
yields old new (Some f) s = fields_taken old new (field_text f) s.0 s.1

pub stepped : (old new bytes : List ℕ) (r : Option Field) → Steps old new r → is_some r ≡ true → rest_of old ≡ bytes → rest_of new ≡ bytes
stepped old new bytes None s some e = cc
stepped old new bytes (Some f) s some e = rest_taken old new bytes (field_text f) s.0 s.1 e

pub step_shorter : (old new : List ℕ) (r : Option Field) → Steps old new r → is_some r ≡ true → length new < length old
step_shorter old new None s some = cc
step_shorter old new (Some f) s some = taken_shorter old new (field_text f) s.0 s.1

pub stopped : (old new bytes : List ℕ) (r : Option Field) → Steps old new r → is_some r ≡ false → rest_of old ≡ bytes → new ≡ bytes
stopped old new bytes None s none e = rest_none old new bytes s.0 s.1 e
stopped old new bytes (Some f) s none e = cc

-- and leaves fewer
pub progress : (can : Fields → Type 0) (s t : Fields) (r : Option Field) → ((x : Fields) → can x) → MatchOption r ((fields_left s ≡ []) × (fields_left t ≡ [])) (λ f. fields_left s ≡ field_text f ∷ fields_left t) →
    MakesProgress can (item_count fields_left) s r t
progress can s t None all m = record { on = λ f. search rules; keeps = search rules; rests = λ f. search rules }
progress can s t (Some x) all m =
    let fewer : length (fields_left t) < length (fields_left s) = rw m (omega arith) in
    record { on = λ f. (all t, search rules, fewer); keeps = all t; rests = λ f. search rules }
