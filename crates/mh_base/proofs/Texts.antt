-- Text as characters.
use Rattle.std.proofs.Common.{◌≡◌, ◌≢◌, List, ℕ, Bool, true, false, [], ◌∷◌, ◌++◌, refl, sym, ◌∙◌, ap, append-nil, lit<, Bor}
use Rattle.std.specs.Prelude.{Option, Some, None, MatchOption, Result, Ok, Err, OnOk, is_ok, if◌then◌else◌, ◌==◌}
use Rattle.std.specs.Char.{IsScalar, encode_utf8}
use Rattle.std.specs.Str.{chars, encode_utf8_all, IsUtf8}
use Rattle.std.proofs.lemmas.Bool.Decides.{Decides-eqb}
use Rattle.std.proofs.lemmas.Str.{chars-append, chars_past_char, chars-nil, IsUtf8-encode, encode_ascii, encodes-chars}
use Rattle.mh_base.specs.Folders.{without_plus, is_folder_name, is_folder_text}

one_char : (c : ℕ) → IsScalar c → chars (encode_utf8 c) ≡ c ∷ []
one_char c ok =
    let past = chars_past_char (encode_utf8 c) [] c (IsUtf8-encode c ok) (sym (append-nil (encode_utf8 c))) in
    past ∙ ap (λ r. c ∷ r) chars-nil

appended : (bytes : List ℕ) (c : ℕ) → IsUtf8 bytes → IsScalar c → chars (bytes ++ encode_utf8 c) ≡ chars bytes ++ c ∷ []
appended bytes c utf8 ok = chars-append bytes (encode_utf8 c) utf8 ∙ ap (λ r. chars bytes ++ r) (one_char c ok)

-- what pushing a character makes of a text
pub pushed : {E : Type 0} (bytes after now : List ℕ) (c : ℕ) (r : Result Unit E) → IsUtf8 bytes → IsScalar c → after ≡ (if is_ok r then bytes ++ encode_utf8 c else bytes) → chars bytes ≡ now → OnOk r (chars after ≡ now ++ c ∷ [])
pushed bytes after now c (Ok u) utf8 ok e is = rw (e, ← is) (appended bytes c utf8 ok)
pushed bytes after now c (Err x) utf8 ok e is = tt

-- the word without its plus sign
pub plus_off : (bytes rest : List ℕ) → IsUtf8 bytes → bytes ≡ 43 ∷ rest → chars rest ≡ without_plus (chars bytes)
plus_off bytes rest utf8 e =
    let past : chars bytes ≡ 43 ∷ chars rest = chars_past_char bytes rest 43 utf8 (e ∙ ap (λ x. x ++ rest) (sym (encode_ascii 43 (lit< tt)))) in
    rw past refl

same_word : (name bytes : List ℕ) → encode_utf8_all name ≡ bytes → ((rest : List ℕ) → bytes ≡ 43 ∷ rest → ⊥) → name ≡ without_plus name
same_word [] bytes e none = refl
same_word (c ∷ rest) bytes e none = choose (c == 43) ((Decides-eqb c 43).0)
  where
    choose : (b : Bool) → (b ≡ true → c ≡ 43) → c ∷ rest ≡ (if b then rest else c ∷ rest)
    choose false p = refl
    choose true p =
        let first : encode_utf8 c ≡ 43 ∷ [] = ap encode_utf8 (p refl) ∙ encode_ascii 43 (lit< tt) in
        absurd (none (encode_utf8_all rest) (sym e ∙ ap (λ x. x ++ encode_utf8_all rest) first))

pub no_plus_first : (bytes : List ℕ) → IsUtf8 bytes → ((rest : List ℕ) → bytes ≡ 43 ∷ rest → ⊥) → chars bytes ≡ without_plus (chars bytes)
no_plus_first bytes utf8 none = same_word (chars bytes) bytes (encodes-chars bytes utf8) none

-- a folder's name is judged by its bytes
pub folder_by_bytes : (bytes name : List ℕ) → IsUtf8 bytes → chars bytes ≡ name → is_folder_name name ≡ is_folder_text bytes
unfolding is_folder_name
folder_by_bytes bytes name utf8 e = ap is_folder_text (ap encode_utf8_all (sym e) ∙ encodes-chars bytes utf8)

pub stripped : (bytes : List ℕ) (o : Option (Bor (List ℕ))) (rest : Bor (List ℕ)) → o ≡ Some rest → MatchOption o ((rest : List ℕ) → bytes ≢ 43 ∷ rest) (λ x. bytes ≡ 43 ∷ x.now) → bytes ≡ 43 ∷ rest.now
stripped bytes o rest is m = rw is at m

pub unstripped : (bytes : List ℕ) (o : Option (Bor (List ℕ))) → o ≡ None → MatchOption o ((rest : List ℕ) → bytes ≢ 43 ∷ rest) (λ x. bytes ≡ 43 ∷ x.now) → (rest : List ℕ) → bytes ≡ 43 ∷ rest → ⊥
unstripped bytes o is m = rw is at m

-- whether the word is a folder's name, by the bytes of the text behind its plus sign
pub judged : (word text bytes name : List ℕ) → IsUtf8 name → chars text ≡ word → chars name ≡ without_plus (chars text) → bytes ≡ name → is_folder_name (without_plus word) ≡ is_folder_text bytes
judged word text bytes name utf8 a b c = folder_by_bytes name (without_plus word) utf8 (b ∙ ap without_plus a) ∙ ap is_folder_text (sym c)
