-- Quoted-printable text, piece by piece.
use Rattle.std.proofs.Common.{◌≡◌, ℕ, zero, suc, ◌+◌, ◌≤◌, Bool, true, false, eqb, Some, None, List, [], ◌∷◌, ◌++◌, length, take, drop, refl, sym, ◌∙◌, ap, arith, length-drop}
use Rattle.std.specs.Prelude.{◌==◌, not}
use Rattle.std.proofs.lemmas.Bool.Decides.{nat_tests}
use Rattle.mime_codes.specs.Hexadecimal.{escaped_byte}
use Rattle.mime_codes.specs.QuotedPrintable.{line_end_len, blank_len, ends_line, ending_len, decoded_behind, qp_decoded}
use Rattle.mime_codes.specs.Pieces.{BeginsWith}
use Rattle.mime_codes.specs.declared.piece.Piece.TheVariants.{Byte, Blanks, Nothing}
use Rattle.mh_base.specs.Characters.{is_blank}

-- passing bytes is dropping them
pub passed : (n : ℕ) (text : List ℕ) → decoded_behind n text ≡ qp_decoded (drop n text)
unfolding decoded_behind
passed zero text = refl
passed (suc n) [] = refl
passed (suc n) (b ∷ rest) = passed n rest

dropped_more : (n m b : ℕ) (rest : List ℕ) → n ≡ suc m → drop n (b ∷ rest) ≡ drop m rest
dropped_more n m b rest e = rw e refl

two_digits : (behind : List ℕ) (v : ℕ) → escaped_byte behind ≡ Some v → 2 ≤ length behind
two_digits [] v e = cc e
two_digits (a ∷ []) v e = cc e
two_digits (a ∷ b ∷ rest) v e = omega arith

escapes_from : (behind : List ℕ) (v : ℕ) → escaped_byte behind ≡ Some v → BeginsWith (61 ∷ behind) (Byte v 3)
unfolding decoded_behind
escapes_from behind v e =
    let two = two_digits behind v e in
    record { some = omega arith; inside = omega arith; stands = rw e (ap (λ x. v ∷ x) (passed 2 behind)) }

pub escapes : (text behind : List ℕ) (v : ℕ) → text ≡ 61 ∷ behind → Some v ≡ escaped_byte behind → BeginsWith text (Byte v 3)
escapes text behind v is e = rw is (escapes_from behind v (sym e))

no_end : (n : ℕ) → n ≡ 0 → not (n == 0) ≡ false
no_end n e = rw e refl

some_end : (n : ℕ) → (n ≡ 0 → ⊥) → not (n == 0) ≡ true
some_end n h = grind (arith, nat_tests)

equals_stays_from : (behind : List ℕ) → escaped_byte behind ≡ None → ends_line behind ≡ false → BeginsWith (61 ∷ behind) (Byte 61 1)
unfolding decoded_behind
equals_stays_from behind e none = record { some = omega arith; inside = omega arith; stands = rw (e, none) refl }

ends_by : (text after : List ℕ) (blanks end : ℕ) → blanks ≡ blank_len text → after ≡ drop blanks text → end ≡ line_end_len after → line_end_len (drop (blank_len text) text) ≡ end
ends_by text after blanks end eb ea ee = sym (ee ∙ ap line_end_len (ea ∙ ap (λ n. drop n text) eb))

pub equals_stays : (text behind after : List ℕ) (blanks end : ℕ) → text ≡ 61 ∷ behind → escaped_byte behind ≡ None → blanks ≡ blank_len behind → after ≡ drop blanks behind → end ≡ line_end_len after → end ≡ 0 → BeginsWith text (Byte 61 1)
equals_stays text behind after blanks end is e eb ea ee none =
    rw is (equals_stays_from behind e (no_end (line_end_len (drop (blank_len behind) behind)) (ends_by behind after blanks end eb ea ee ∙ none)))

breaks_from : (behind : List ℕ) (n : ℕ) → escaped_byte behind ≡ None → ends_line behind ≡ true → n ≡ suc (ending_len behind) → ending_len behind ≤ length behind → BeginsWith (61 ∷ behind) (Nothing n)
unfolding decoded_behind
breaks_from behind n e end is inside =
    record {
      some = omega arith;
      inside = omega arith;
      stands = rw (e, end, dropped_more n (ending_len behind) 61 behind is) (passed (ending_len behind) behind);
    }

pub breaks_softly : (text behind after : List ℕ) (blanks end : ℕ) → text ≡ 61 ∷ behind → escaped_byte behind ≡ None → blanks ≡ blank_len behind → blanks ≤ length behind → after ≡ drop blanks behind → end ≡ line_end_len after → end ≤ length after → (end ≡ 0 → ⊥) → BeginsWith text (Nothing (1 + blanks + end))
breaks_softly text behind after blanks end is e eb within ea ee inside some =
    let same : line_end_len (drop (blank_len behind) behind) ≡ end = ends_by behind after blanks end eb ea ee in
    let shorter : length after ≡ length (drop blanks behind) = ap length ea in
    rw is (breaks_from behind (1 + blanks + end) e (some_end (line_end_len (drop (blank_len behind) behind)) (λ z. some (sym same ∙ z)))
    (omega (arith, same, eb)) (omega (arith, same, eb, shorter, length-drop blanks behind)))

no_equals : (b : ℕ) → is_blank b ≡ true → eqb b 61 ≡ false
no_equals b e = grind (arith, nat_tests)

pub byte_stays : (b : ℕ) (rest text : List ℕ) → text ≡ b ∷ rest → (b ≡ 61 → ⊥) → is_blank b ≡ false → BeginsWith text (Byte b 1)
unfolding decoded_behind
byte_stays b rest text is other none =
    let no_equals_sign : eqb b 61 ≡ false = grind (arith, nat_tests) in
    rw is (record { some = omega arith; inside = omega arith; stands = rw (no_equals_sign, none) refl })

pub blanks_more : (b : ℕ) (rest : List ℕ) → is_blank b ≡ true → blank_len (b ∷ rest) ≡ suc (blank_len rest)
blanks_more b rest e = rw e (omega arith)

pub blanks_none : (b : ℕ) (rest : List ℕ) → is_blank b ≡ false → blank_len (b ∷ rest) ≡ 0
blanks_none b rest e = rw e refl

pub blank_kept : (b : ℕ) (rest : List ℕ) → is_blank b ≡ true → ends_line rest ≡ false → qp_decoded (b ∷ rest) ≡ b ∷ qp_decoded rest
unfolding decoded_behind
blank_kept b rest e end = rw (no_equals b e, e, end) refl

blank_gone : (b : ℕ) (rest : List ℕ) → is_blank b ≡ true → ends_line rest ≡ true → qp_decoded (b ∷ rest) ≡ qp_decoded rest
unfolding decoded_behind
blank_gone b rest e end = rw (no_equals b e, e, end) refl

pub other_kept : (b : ℕ) (rest : List ℕ) → eqb b 61 ≡ false → is_blank b ≡ false → qp_decoded (b ∷ rest) ≡ b ∷ qp_decoded rest
unfolding decoded_behind
other_kept b rest other none = rw (other, none) refl

abbrev IsKept : List ℕ → Type 0
IsKept text = qp_decoded text ≡ take (blank_len text) text ++ qp_decoded (drop (blank_len text) text)

abbrev IsGone : List ℕ → Type 0
IsGone text = qp_decoded text ≡ qp_decoded (drop (blank_len text) text)

pub end_behind : (t : Bool) (b : ℕ) (rest : List ℕ) → is_blank b ≡ true → ends_line (b ∷ rest) ≡ t → ends_line rest ≡ t
end_behind t b rest e end = rw (blanks_more b rest e) at end

kept_by : (t : Bool) (b : ℕ) (rest : List ℕ) → is_blank b ≡ t → (t ≡ true → ends_line rest ≡ false) → (t ≡ true → IsKept rest) → IsKept (b ∷ rest)
kept_by false b rest e end more = rw (blanks_none b rest e) refl
kept_by true b rest e end more = rw (blanks_more b rest e) (blank_kept b rest e (end refl) ∙ ap (λ x. b ∷ x) (more refl))

kept_blanks : (text : List ℕ) → ends_line text ≡ false → IsKept text
kept_blanks [] none = refl
kept_blanks (b ∷ rest) none =
    kept_by (is_blank b) b rest refl (λ e. end_behind false b rest e none) (λ e. kept_blanks rest (end_behind false b rest e none))

gone_by : (t : Bool) (b : ℕ) (rest : List ℕ) → is_blank b ≡ t → (t ≡ true → ends_line rest ≡ true) → (t ≡ true → IsGone rest) → IsGone (b ∷ rest)
gone_by false b rest e end more = rw (blanks_none b rest e) refl
gone_by true b rest e end more = rw (blanks_more b rest e) (blank_gone b rest e (end refl) ∙ more refl)

gone_blanks : (text : List ℕ) → ends_line text ≡ true → IsGone text
gone_blanks [] end = refl
gone_blanks (b ∷ rest) end =
    gone_by (is_blank b) b rest refl (λ e. end_behind true b rest e end) (λ e. gone_blanks rest (end_behind true b rest e end))

kept_from : (text : List ℕ) (n : ℕ) → n ≡ blank_len text → IsKept text → qp_decoded text ≡ take n text ++ qp_decoded (drop n text)
kept_from text n e kept = rw e kept

gone_from : (text : List ℕ) (n : ℕ) → n ≡ blank_len text → IsGone text → qp_decoded text ≡ qp_decoded (drop n text)
gone_from text n e gone = rw e gone

pub blanks_stay : (text after : List ℕ) (blanks end : ℕ) → 1 ≤ blank_len text → blanks ≡ blank_len text → blanks ≤ length text → after ≡ drop blanks text → end ≡ line_end_len after → end ≡ 0 → BeginsWith text (Blanks blanks)
blanks_stay text after blanks end some eb within ea ee none = record {
  some = omega (arith, some, eb);
  inside = within;
  stands = kept_from text blanks eb (kept_blanks text (no_end (line_end_len (drop (blank_len text) text)) (ends_by text after blanks end eb ea ee ∙ none)));
}

pub blanks_vanish : (text after : List ℕ) (blanks end : ℕ) → 1 ≤ blank_len text → blanks ≡ blank_len text → blanks ≤ length text → after ≡ drop blanks text → end ≡ line_end_len after → (end ≡ 0 → ⊥) → BeginsWith text (Nothing blanks)
blanks_vanish text after blanks end some eb within ea ee there = record {
  some = omega (arith, some, eb);
  inside = within;
  stands = gone_from text blanks eb (gone_blanks text (some_end (line_end_len (drop (blank_len text) text)) (λ z. there (sym (ends_by text after blanks end eb ea ee) ∙ z))));
}
