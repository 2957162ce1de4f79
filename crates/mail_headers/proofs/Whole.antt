-- Each text of bytes is one message, and no other.
use Rattle.std.proofs.Common.{◌≡◌, inl, inr, ℕ, zero, suc, ◌≤◌, Option, Some, None, List, [], ◌∷◌, ◌++◌, length, take, drop, refl, sym, ◌∙◌, ap, arith, rules}
use Rattle.std.proofs.lemmas.List.{take-append-drop, length-take-le}
use Rattle.std.proofs.Math.Seq.{take-append_seam, drop-append_seam}
use Rattle.mail_headers.specs.Lines.{folded_len, empty_line_len}
use Rattle.mail_headers.specs.Fields.{FieldText, first_field, with_first, fields_up_to, fields_of}
use Rattle.mail_headers.specs.Message.{behind_first, rest_up_to, rest_of, body_of}
use Rattle.mail_headers.specs.Whole.{IsFieldText, StandBefore, IsBehind, IsMessage, IsNoOther}
use Rattle.mail_headers.proofs.Folding.{folded_len-le}
use Rattle.mail_headers.proofs.Walking.{none_in, shorter, same_len, fields_none, fields_of-step, rest_of-step}

front_is_field : (bytes : List ℕ) (f : FieldText) → first_field bytes ≡ Some f → IsFieldText (take (folded_len bytes) bytes) (drop (folded_len bytes) bytes) f
front_is_field bytes f e =
    (ap folded_len (take-append-drop (folded_len bytes) bytes) ∙ sym (length-take-le (folded_len bytes) bytes (folded_len-le bytes)), e)

one_before : (bytes : List ℕ) (o : Option FieldText) (fs : List FieldText) (rest : List ℕ) → first_field bytes ≡ o → StandBefore fs rest (drop (folded_len bytes) bytes) → StandBefore (with_first o fs) (behind_first o bytes rest) bytes
one_before bytes None fs rest e more = refl
one_before bytes (Some f) fs rest e more =
    (take (folded_len bytes) bytes, drop (folded_len bytes) bytes, sym (take-append-drop (folded_len bytes) bytes), front_is_field bytes f e, more)

stand_before : (n : ℕ) (bytes : List ℕ) → StandBefore (fields_up_to n bytes) (rest_up_to n bytes) bytes
stand_before zero bytes = refl
stand_before (suc n) bytes =
    one_before bytes (first_field bytes) (fields_up_to n (drop (folded_len bytes) bytes)) (rest_up_to n (drop (folded_len bytes) bytes)) refl (stand_before n (drop (folded_len bytes) bytes))

none_behind : (bytes rest : List ℕ) (o : Option FieldText) → first_field bytes ≡ o → first_field rest ≡ None → first_field (behind_first o bytes rest) ≡ None
none_behind bytes rest None e more = e
none_behind bytes rest (Some f) e more = more

no_more : (n : ℕ) (bytes : List ℕ) → length bytes ≤ n → first_field (rest_up_to n bytes) ≡ None
no_more zero [] le = none_in
no_more zero (b ∷ bs) le = absurd (omega arith)
no_more (suc n) bytes le =
    none_behind bytes (rest_up_to n (drop (folded_len bytes) bytes)) (first_field bytes) refl (no_more n (drop (folded_len bytes) bytes) (shorter bytes n le))

is_behind : (rest : List ℕ) → IsBehind (drop (empty_line_len rest) rest) rest
is_behind [] = inl (refl, refl)
is_behind (b ∷ bs) = search rules

pub is_message : (bytes : List ℕ) → IsMessage (fields_of bytes) (body_of bytes) bytes
unfolding fields_of rest_of
is_message bytes =
    let rest = rest_up_to (length bytes) bytes in
    (rest, stand_before (length bytes) bytes, no_more (length bytes) bytes (same_len (length bytes)), is_behind rest)

behind_text : (bytes text after : List ℕ) → bytes ≡ text ++ after → folded_len (text ++ after) ≡ length text → drop (folded_len bytes) bytes ≡ after
behind_text bytes text after is len = rw (is, len) (drop-append_seam text after)

first_text : (bytes text after : List ℕ) (f : FieldText) → bytes ≡ text ++ after → IsFieldText text after f → first_field bytes ≡ Some f
first_text bytes text after f is field = rw (is, field.0, take-append_seam text after) field.1

same_fields : (fs : List FieldText) (rest bytes : List ℕ) → StandBefore fs rest bytes → first_field rest ≡ None → (fs ≡ fields_of bytes) × (rest ≡ rest_of bytes)
same_fields [] rest bytes is none =
    let e : first_field bytes ≡ None = rw is none in
    (sym (fields_none bytes e), sym is ∙ sym (rest_of-step bytes ∙ rw e refl))
same_fields (f ∷ fs) rest bytes s none =
    let text : List ℕ = s.0 in
    let after : List ℕ = s.1 in
    let is : bytes ≡ text ++ after = s.2 in
    let field : IsFieldText text after f = s.3 in
    let first = first_text bytes text after f is field in
    let front = behind_text bytes text after is field.0 in
    let more = same_fields fs rest after s.4 none in
    (rw more.0 (sym (fields_of-step bytes ∙ rw (first, front) refl)), more.1 ∙ sym (rest_of-step bytes ∙ rw (first, front) refl))

same_body : (rest body : List ℕ) → IsBehind body rest → body ≡ drop (empty_line_len rest) rest
same_body rest body (inl e) = e.1 ∙ sym (rw e.0 refl)
same_body rest body (inr (inl e)) = sym (rw e refl)
same_body rest body (inr (inr (inl e))) = sym (rw e refl)
same_body rest body (inr (inr (inr e))) = e.1 ∙ sym (rw e.0 refl)

pub is_no_other : (bytes : List ℕ) → IsNoOther (fields_of bytes) (body_of bytes) bytes
is_no_other bytes fs body is =
    let same = same_fields fs is.0 bytes is.1 is.2 in
    (same.0, same_body is.0 body is.3 ∙ rw same.1 refl)
