-- Bytes shown, front by front.
use Rattle.std.proofs.Common.{◌≡◌, ℕ, zero, suc, ◌+◌, ◌<◌, ◌≤◌, List, [], ◌∷◌, ◌++◌, length, take, drop, refl, sym, ap, ◌∙◌, arith, inl, inr, length-drop, append_assoc}
use Rattle.std.specs.Str.{chars, IsUtf8}
use Rattle.std.specs.Str.Lossy.{utf8_valid_len}
use Rattle.std.proofs.lemmas.Bool.{cases_lt}
use Rattle.std.proofs.lemmas.Str.{utf8_valid_len-IsUtf8, utf8_valid_len_le}
use Rattle.std.proofs.lemmas.List.{drop-drop}
use Rattle.mh_base.proofs.NumberTests.{equal_test, less_test}
use Rattle.mail_text.specs.ShownBytes.{shown, shown_up_to}

-- all is UTF-8
pub whole_up_to : (n : ℕ) (bytes : List ℕ) → utf8_valid_len bytes ≡ length bytes → shown_up_to n bytes ≡ chars bytes
whole_up_to zero bytes e = refl
whole_up_to (suc n) bytes e = rw (equal_test (utf8_valid_len bytes) (length bytes) e) refl

-- a byte stands behind the front that is UTF-8
pub part_up_to : (n : ℕ) (bytes : List ℕ) → utf8_valid_len bytes < length bytes →
    shown_up_to (suc n) bytes ≡ chars (take (utf8_valid_len bytes) bytes) ++ 63 ∷ shown_up_to n (drop (utf8_valid_len bytes + 1) bytes)
part_up_to n bytes lt = rw (less_test (utf8_valid_len bytes) (length bytes) lt) refl

-- more steps than bytes change nothing
enough : (m n : ℕ) (bytes : List ℕ) → length bytes ≤ m → length bytes ≤ n → shown_up_to m bytes ≡ shown_up_to n bytes
enough zero n bytes a b =
    let le = utf8_valid_len_le bytes in
    let none : utf8_valid_len bytes ≡ length bytes = omega arith in
    sym (whole_up_to n bytes none)
enough (suc m) zero bytes a b =
    let le = utf8_valid_len_le bytes in
    let none : utf8_valid_len bytes ≡ length bytes = omega arith in
    whole_up_to (suc m) bytes none
enough (suc m) (suc n) bytes a b =
    elim (cases_lt (utf8_valid_len bytes) (length bytes)) [
      | inl lt ↦
          let next = drop (utf8_valid_len bytes + 1) bytes in
          let len = length-drop (utf8_valid_len bytes + 1) bytes in
          part_up_to m bytes lt ∙ ap (λ x. chars (take (utf8_valid_len bytes) bytes) ++ 63 ∷ x) (enough m n next (omega (arith, len)) (omega (arith, len))) ∙ sym (part_up_to n bytes lt)
      | inr ge ↦
          let le = utf8_valid_len_le bytes in
          let all : utf8_valid_len bytes ≡ length bytes = omega arith in
          whole_up_to (suc m) bytes all ∙ sym (whole_up_to (suc n) bytes all)
    ]

shown_part : (bytes : List ℕ) → utf8_valid_len bytes < length bytes →
    shown bytes ≡ chars (take (utf8_valid_len bytes) bytes) ++ 63 ∷ shown (drop (utf8_valid_len bytes + 1) bytes)
unfolding shown
shown_part bytes lt =
    let next = drop (utf8_valid_len bytes + 1) bytes in
    let len = length-drop (utf8_valid_len bytes + 1) bytes in
    enough (length bytes) (suc (length bytes)) bytes (omega arith) (omega arith) ∙ part_up_to (length bytes) bytes lt
    ∙ ap (λ x. chars (take (utf8_valid_len bytes) bytes) ++ 63 ∷ x) (enough (length bytes) (length next) next (omega (arith, len)) (omega (arith, len)))

-- the front that is UTF-8 is put, and a question mark
pub fault_passed : (rest valid behind next old some new all : List ℕ) (n : ℕ) → n ≡ utf8_valid_len rest → n < length rest → valid ≡ take n rest → behind ≡ drop n rest → next ≡ drop 1 behind →
    some ≡ old ++ chars valid → new ≡ some ++ 63 ∷ [] → old ++ shown rest ≡ all → new ++ shown next ≡ all
fault_passed rest valid behind next old some new all n en lt ev eb ex es ew e =
    let le : utf8_valid_len rest < length rest = omega (arith, en, lt) in
    let after : next ≡ drop (n + 1) rest = ex ∙ ap (drop 1) eb ∙ drop-drop 1 n rest in
    let here : shown rest ≡ chars valid ++ 63 ∷ shown next =
    shown_part rest le ∙ rw (after, ev, en) refl in
    ap (λ x. x ++ shown next) (ew ∙ ap (λ x. x ++ 63 ∷ []) es) ∙ append_assoc (old ++ chars valid) (63 ∷ []) (shown next) ∙ append_assoc old (chars valid) (63 ∷ shown next)
    ∙ ap (λ x. old ++ x) (sym here) ∙ e

-- the rest is UTF-8
pub all_valid : (rest old new all : List ℕ) → IsUtf8 rest → new ≡ old ++ chars rest → old ++ shown rest ≡ all → new ≡ all
unfolding shown
all_valid rest old new all utf8 ew e = ew ∙ ap (λ x. old ++ x) (sym (whole_up_to (length rest) rest (utf8_valid_len-IsUtf8 rest utf8))) ∙ e
