-- Bytes and the pieces of which they are made.
use Rattle.std.proofs.Common.{◌≡◌, ℕ, zero, suc, ◌+◌, ◌<◌, ◌≤◌, Bool, true, false, List, [], ◌∷◌, ◌++◌, length, take, drop, get_or, map, refl, sym, ap, subst, ◌∙◌, arith, inl, inr, length-append, length-drop, append_assoc, append-nil, take_all}
use Rattle.std.specs.Prelude.{if◌then◌else◌}
use Rattle.std.specs.Char.{encode_utf8}
use Rattle.std.specs.Str.{chars, encode_utf8_all, all_scalars, IsUtf8, StartsWithNoChar, is_utf8}
use Rattle.std.specs.Str.Lossy.{utf8_valid_len, valid_len_up_to}
use Rattle.std.proofs.lemmas.Bool.{cases_lt, and_parts}
use Rattle.std.proofs.lemmas.Str.{IsUtf8-encode, IsUtf8-append, IsUtf8-from_is_utf8, is_utf8-from_IsUtf8, chars-encodes, encode_same, IsUtf8-nil, length-encode, len_utf8_bounds, utf8_valid_len_le}
use Rattle.std.proofs.lemmas.List.{drop_more, take-append-drop, take_at, length-take-le}
use Rattle.mail_text.specs.ShownBytes.{shown, shown_up_to}
use Rattle.mail_text.specs.ShownPieces.{Piece, bytes_in, shown_for, IsBefore, ArePieces, IsShownAs, AsNoOther}
use Rattle.mail_text.specs.ShownPieces.Piece.{Character, Stray}
use Rattle.mail_text.proofs.Fronts.{whole_up_to, part_up_to}

-- one reading

same_piece : (p q : Piece) (a b : List ℕ) → IsBefore p a → IsBefore q b → bytes_in p ++ a ≡ bytes_in q ++ b → (p ≡ q) × (a ≡ b)
same_piece (Character c) (Character d) a b sc sd e = let same = encode_same c d a b e in (ap Character same.0, same.1)
same_piece (Character c) (Stray y) a b sc none e = absurd (none c a sc (sym e))
same_piece (Stray x) (Character d) a b none sd e = absurd (none d b sd e)
same_piece (Stray x) (Stray y) a b nx ny e = let heads : x ≡ y = cc in let tails : a ≡ b = cc in (ap Stray heads, tails)

some_bytes : (p : Piece) (after : List ℕ) → bytes_in p ++ after ≡ [] → ⊥
some_bytes (Character c) after e =
    let size = length-encode c in
    let some = len_utf8_bounds c in
    omega (arith, ap length e, length-append (encode_utf8 c) after, size, some.0)
some_bytes (Stray x) after e = cc e

same_pieces : (ps qs : List Piece) (a b : List ℕ) → a ≡ b → ArePieces ps a → ArePieces qs b → ps ≡ qs
same_pieces [] [] a b e pa pb = refl
same_pieces [] (q ∷ qs) a b e pa (after, eb, before, rest) = absurd (some_bytes q after (sym eb ∙ sym e ∙ pa))
same_pieces (p ∷ ps) [] a b e (after, ea, before, rest) pb = absurd (some_bytes p after (sym ea ∙ e ∙ pb))
same_pieces (p ∷ ps) (q ∷ qs) a b e (after, ea, before, rest) (behind, eb, here, more) =
    let same = same_piece p q after behind before here (sym ea ∙ e ∙ eb) in
    let tails = same_pieces ps qs after behind same.1 rest more in
    ap (λ x. x ∷ ps) same.0 ∙ ap (λ x. q ∷ x) tails

pub no_other : (bytes text : List ℕ) → IsShownAs bytes text → AsNoOther bytes text
no_other bytes text (ps, are, is) other (qs, others, same) = same ∙ ap (map shown_for) (same_pieces qs ps bytes bytes refl others are) ∙ sym is

-- there is one

front_shown : (cs rest text : List ℕ) → all_scalars cs ≡ true → IsShownAs rest text → IsShownAs (encode_utf8_all cs ++ rest) (cs ++ text)
front_shown [] rest text scalars s = s
front_shown (c ∷ cs) rest text scalars s =
    let both = and_parts _ _ scalars in
    let more = front_shown cs rest text both.1 s in
    (Character c ∷ more.0, (encode_utf8_all cs ++ rest, append_assoc (encode_utf8 c) (encode_utf8_all cs) rest, both.0, more.1), ap (λ x. c ∷ x) more.2)

valid_shown : (valid rest text : List ℕ) → IsUtf8 valid → IsShownAs rest text → IsShownAs (valid ++ rest) (chars valid ++ text)
valid_shown valid rest text (cs, (scalars, e)) s =
    let same : chars valid ≡ cs = ap chars (sym e) ∙ chars-encodes cs scalars in
    subst (λ v. IsShownAs (v ++ rest) (chars valid ++ text)) e (subst (λ x. IsShownAs (encode_utf8_all cs ++ rest) (x ++ text)) (sym same) (front_shown cs rest text scalars s))

whole_shown : (bytes : List ℕ) → IsUtf8 bytes → IsShownAs bytes (chars bytes)
whole_shown bytes utf8 =
    subst (λ b. IsShownAs b (chars bytes)) (append-nil bytes) (subst (λ t. IsShownAs (bytes ++ []) t) (append-nil (chars bytes)) (valid_shown bytes [] [] utf8 ([], refl, refl)))

pub front_by : (t : Bool) (bytes : List ℕ) (n k : ℕ) → is_utf8 (take (suc n) bytes) ≡ t → is_utf8 (take k bytes) ≡ true → is_utf8 (take (if t then suc n else k) bytes) ≡ true
front_by true bytes n k e front = e
front_by false bytes n k e front = front

pub front_valid : (bytes : List ℕ) (n : ℕ) → is_utf8 (take (valid_len_up_to bytes n) bytes) ≡ true
front_valid bytes zero = is_utf8-from_IsUtf8 [] IsUtf8-nil
front_valid bytes (suc n) = front_by (is_utf8 (take (suc n) bytes)) bytes n (valid_len_up_to bytes n) refl (front_valid bytes n)

longest_by : (t : Bool) (bytes : List ℕ) (n m k : ℕ) → is_utf8 (take (suc n) bytes) ≡ t → m ≤ suc n → is_utf8 (take m bytes) ≡ true → (m ≤ n → m ≤ k) → m ≤ (if t then suc n else k)
longest_by true bytes n m k e le valid more = le
longest_by false bytes n m k e le valid more =
    elim (cases_lt m (suc n)) [
      | inl lt ↦ more (omega arith)
      | inr ge ↦ let same : m ≡ suc n = omega arith in let both : is_utf8 (take (suc n) bytes) ≡ true = subst (λ x. is_utf8 (take x bytes) ≡ true) same valid in absurd (cc (e, both))
    ]

longest : (bytes : List ℕ) (n m : ℕ) → m ≤ n → is_utf8 (take m bytes) ≡ true → m ≤ valid_len_up_to bytes n
longest bytes zero m le valid = le
longest bytes (suc n) m le valid = longest_by (is_utf8 (take (suc n) bytes)) bytes n m (valid_len_up_to bytes n) refl le valid (λ less. longest bytes n m less valid)

valid_front : (bytes : List ℕ) → is_utf8 (take (utf8_valid_len bytes) bytes) ≡ true
unfolding utf8_valid_len
valid_front bytes = front_valid bytes (length bytes)

valid_longest : (bytes : List ℕ) (m : ℕ) → m ≤ length bytes → is_utf8 (take m bytes) ≡ true → m ≤ utf8_valid_len bytes
unfolding utf8_valid_len
valid_longest bytes m le valid = longest bytes (length bytes) m le valid

whole_valid : (bytes : List ℕ) → utf8_valid_len bytes ≡ length bytes → IsUtf8 bytes
whole_valid bytes e = IsUtf8-from_is_utf8 bytes (subst (λ b. is_utf8 b ≡ true) (take_all (utf8_valid_len bytes) bytes (omega (arith, e))) (valid_front bytes))

-- no character begins behind the longest front that is UTF-8
none_begins : (bytes : List ℕ) → utf8_valid_len bytes < length bytes → StartsWithNoChar (drop (utf8_valid_len bytes) bytes)
none_begins bytes lt c rest scalar e =
    let n = utf8_valid_len bytes in
    let m = n + length (encode_utf8 c) in
    let whole : bytes ≡ (take n bytes ++ encode_utf8 c) ++ rest =
    sym (take-append-drop n bytes) ∙ ap (λ x. take n bytes ++ x) e ∙ sym (append_assoc (take n bytes) (encode_utf8 c) rest) in
    let size : length (take n bytes ++ encode_utf8 c) ≡ m =
    length-append (take n bytes) (encode_utf8 c) ∙ ap (λ k. k + length (encode_utf8 c)) (length-take-le n bytes (omega (arith, lt))) in
    let front : take m bytes ≡ take n bytes ++ encode_utf8 c = ap (take m) whole ∙ take_at (take n bytes ++ encode_utf8 c) rest m size in
    let valid = is_utf8-from_IsUtf8 (take n bytes ++ encode_utf8 c) (IsUtf8-append (take n bytes) (encode_utf8 c) (IsUtf8-from_is_utf8 (take n bytes) (valid_front bytes)) (IsUtf8-encode c scalar)) in
    let within : m ≤ length bytes = omega (arith, ap length whole, length-append (take n bytes ++ encode_utf8 c) rest, size) in
    let le = valid_longest bytes m within (subst (λ b. is_utf8 b ≡ true) (sym front) valid) in
    let width = length-encode c in
    let some = len_utf8_bounds c in
    omega (arith, le, width, some.0)

part_shown : (bytes text : List ℕ) → utf8_valid_len bytes < length bytes → IsShownAs (drop (utf8_valid_len bytes + 1) bytes) text →
    IsShownAs bytes (chars (take (utf8_valid_len bytes) bytes) ++ 63 ∷ text)
part_shown bytes text lt (ps, are, is) =
    let n = utf8_valid_len bytes in
    let cut : drop n bytes ≡ get_or bytes n 0 ∷ drop (n + 1) bytes = drop_more bytes n 0 lt in
    let stray : IsShownAs (get_or bytes n 0 ∷ drop (n + 1) bytes) (63 ∷ text) =
    (Stray (get_or bytes n 0) ∷ ps, (drop (n + 1) bytes, refl, subst StartsWithNoChar cut (none_begins bytes lt), are), ap (λ x. 63 ∷ x) is) in
    subst (λ b. IsShownAs b (chars (take n bytes) ++ 63 ∷ text)) (ap (λ x. take n bytes ++ x) (sym cut) ∙ take-append-drop n bytes)
    (valid_shown (take n bytes) (get_or bytes n 0 ∷ drop (n + 1) bytes) (63 ∷ text) (IsUtf8-from_is_utf8 (take n bytes) (valid_front bytes)) stray)

shown_within : (n : ℕ) (bytes : List ℕ) → length bytes ≤ n → IsShownAs bytes (shown_up_to n bytes)
shown_within zero bytes le =
    let short = utf8_valid_len_le bytes in
    whole_shown bytes (whole_valid bytes (omega arith))
shown_within (suc n) bytes le =
    elim (cases_lt (utf8_valid_len bytes) (length bytes)) [
      | inl lt ↦
          subst (IsShownAs bytes) (sym (part_up_to n bytes lt))
          (part_shown bytes _ lt (shown_within n (drop (utf8_valid_len bytes + 1) bytes) (omega (arith, length-drop (utf8_valid_len bytes + 1) bytes))))
      | inr ge ↦
          let short = utf8_valid_len_le bytes in
          let all : utf8_valid_len bytes ≡ length bytes = omega arith in
          subst (IsShownAs bytes) (sym (whole_up_to (suc n) bytes all)) (whole_shown bytes (whole_valid bytes all))
    ]

-- what is shown is made of pieces, and no other text is
pub shown_pieces : (bytes text : List ℕ) → text ≡ shown bytes → IsShownAs bytes text
unfolding shown
shown_pieces bytes text e = subst (IsShownAs bytes) (sym e) (shown_within (length bytes) bytes (omega arith))

pub shown_alone : (bytes text : List ℕ) → text ≡ shown bytes → AsNoOther bytes text
shown_alone bytes text e = no_other bytes text (shown_pieces bytes text e)
