-- Texts by their characters and by their bytes.
use Rattle.std.proofs.Common.{◌≡◌, ◌≢◌, ◌<◌, ℕ, zero, suc, Bool, false, List, [], ◌∷◌, ◌++◌, Bor, drop, length, length-append, sym, ◌∙◌, ap, arith}
use Rattle.std.specs.Prelude.{Option, Some, None, MatchOption, IsTrue, ◌==◌, ◌↔◌}
use Rattle.std.specs.Str.{chars, encode_utf8_all, IsUtf8}
use Rattle.std.proofs.lemmas.Bool.Decides.{Decides-eqb}
use Rattle.std.proofs.lemmas.Str.{chars-append, chars_past_char, encode_ascii, encodes-chars, encodes-append, chars-nil}
use Rattle.mh_words.specs.Switches.{BeginsWith}

-- a text that begins with a mark
pub marked : (bytes : List ℕ) (mark : ℕ) (r : Option (Bor (List ℕ))) → IsUtf8 bytes → mark < 128 → MatchOption r ((rest : List ℕ) → bytes ≢ mark ∷ rest) (λ x. bytes ≡ mark ∷ x.now)
    → MatchOption r ((rest : List ℕ) → chars bytes ≢ mark ∷ rest) (λ x. chars bytes ≡ mark ∷ chars x.now)
marked bytes mark None utf8 small lacks = λ rest e.
    lacks (encode_utf8_all rest) (sym (encodes-chars bytes utf8) ∙ ap encode_utf8_all e ∙ ap (λ x. x ++ encode_utf8_all rest) (encode_ascii mark small))
marked bytes mark (Some x) utf8 small e = chars_past_char bytes x.now mark utf8 (e ∙ ap (λ y. y ++ x.now) (sym (encode_ascii mark small)))

-- a text whose characters begin so, and whose bytes do not
pub begins_by_bytes : (name text : List ℕ) → IsUtf8 name → IsUtf8 text → ((rest : List ℕ) → name ≢ text ++ rest) → ¬ (BeginsWith (chars name) (chars text))
begins_by_bytes name text name_ok text_ok lacks (rest, e) =
    lacks (encode_utf8_all rest)
    (sym (encodes-chars name name_ok) ∙ ap encode_utf8_all e ∙ encodes-append (chars text) rest ∙ ap (λ x. x ++ encode_utf8_all rest) (encodes-chars text text_ok))

pub begins : (name text rest : List ℕ) → IsUtf8 text → name ≡ text ++ rest → BeginsWith (chars name) (chars text)
begins name text rest text_ok e = (chars rest, ap chars e ∙ chars-append text rest text_ok)

-- a longer text has other characters
pub longer : (name text rest : List ℕ) → IsUtf8 name → IsUtf8 text → name ≡ text ++ rest → 0 < length rest → chars name ≢ chars text
longer name text rest name_ok text_ok e more same =
    let bytes : name ≡ text = sym (encodes-chars name name_ok) ∙ ap encode_utf8_all same ∙ encodes-chars text text_ok in
    let long : length name ≡ length (text ++ rest) = ap length e in
    let short : length name ≡ length text = ap length bytes in
    absurd (omega (arith, long, short, length-append text rest))

-- a text that goes on after the other
pub goes_on : (name text rest : List ℕ) (k : ℕ) (empty : Bool) → IsUtf8 name → IsUtf8 text → name ≡ text ++ drop k name → rest ≡ drop k name → empty ≡ (length rest == 0) → empty ≡ false
    → BeginsWith (chars name) (chars text) × (chars name ≢ chars text)
goes_on name text rest k empty name_ok text_ok e left tested more =
    let whole : name ≡ text ++ rest = e ∙ ap (λ x. text ++ x) (sym left) in
    let nonempty : (length rest == 0) ≡ false = sym tested ∙ more in
    let some : 0 < length rest = positive (length rest) nonempty in
    (begins name text rest text_ok whole, longer name text rest name_ok text_ok whole some)
  where
    positive : (n : ℕ) → (n == 0) ≡ false → 0 < n
    positive zero h = cc (h)
    positive (suc n) h = omega arith

-- a text with no bytes has no characters, and the other way round
pub blank : (bytes : List ℕ) (empty : Bool) → IsUtf8 bytes → empty ≡ (length bytes == 0) → IsTrue empty ↔ (chars bytes ≡ [])
blank [] empty utf8 tested = (λ h. chars-nil, λ e. tested)
blank (b ∷ bs) empty utf8 tested = (
  λ h. let none : suc (length bs) ≡ 0 = (Decides-eqb (suc (length bs)) 0).0 (sym tested ∙ h) in cc (none),
  λ e. let none : b ∷ bs ≡ [] = sym (encodes-chars (b ∷ bs) utf8) ∙ ap encode_utf8_all e in cc (none),
)
