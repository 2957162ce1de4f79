-- A text with encoded words, word by word.
use Rattle.std.proofs.Common.{◌≡◌, ℕ, zero, suc, ◌<◌, ◌≤◌, Bool, true, false, Option, Some, None, List, [], ◌∷◌, ◌++◌, length, take, drop, refl, sym, ap, ◌∙◌, arith, length-drop, append_assoc, append-nil}
use Rattle.std.specs.Prelude.{option_and_then, is_some, ◌==◌, if◌then◌else◌}
use Rattle.std.specs.List.{prefix_len}
use Rattle.mail_text.specs.declared.charset.Charset.{Charset}
use Rattle.mail_text.specs.declared.encoding.Encoding.{Encoding}
use Rattle.mail_text.specs.EncodedWords.{WordText, after, is_inner, is_text, charset_named, encoding_first, closed, word_of, lettered, named, first_word, characters_of, without_gap, decoded_by, decoded_within, decoded}
use Rattle.mh_base.specs.Characters.{is_blank}

pub then_some : {A B : Type 0} (f : A → Option B) (o : Option A) (b : B) → option_and_then f o ≡ Some b → (a : A) × (o ≡ Some a) × (f a ≡ Some b)
then_some f None b e = cc e
then_some f (Some a) b e = (a, refl, e)

after_by : (t : Bool) (rest r : List ℕ) → (if t then Some rest else None) ≡ Some r → length rest ≡ length r
after_by true rest r e = let same : rest ≡ r = cc e in ap length same
after_by false rest r e = cc e

after_len : (c : ℕ) (text rest : List ℕ) → after c text ≡ Some rest → length rest < length text
after_len c [] rest e = cc e
after_len c (d ∷ text) rest e = let same = after_by (d == c) text rest e in omega (arith, same)

closed_len : (text rest : List ℕ) → closed text ≡ Some rest → length rest < length text
closed_len text rest e =
    let t = then_some (after 61) (after 63 text) rest e in
    let a = after_len 63 text t.0 t.1 in
    let b = after_len 61 t.0 rest t.2 in
    omega (arith, a, b)

abbrev parts : Charset → Encoding → List ℕ → List ℕ → Option WordText
parts charset encoding text behind = Some record { charset = charset; encoding = encoding; text = take (prefix_len is_text text) text; behind = behind }

word_len : (charset : Charset) (encoding : Encoding) (text : List ℕ) (w : WordText) → word_of charset encoding text ≡ Some w → length w.behind ≤ length text
word_len charset encoding text w e =
    let t = then_some (parts charset encoding text) (closed (drop (prefix_len is_text text) text)) w e in
    let same : t.0 ≡ w.behind = ap (λ o. behind_in o t.0) t.2 in
    let a = closed_len (drop (prefix_len is_text text) text) t.0 t.1 in
    omega (arith, a, ap length same, length-drop (prefix_len is_text text) text)
  where
    behind_in : Option WordText → List ℕ → List ℕ
    behind_in None other = other
    behind_in (Some v) other = v.behind

lettered_len : (charset : Charset) (text : List ℕ) (w : WordText) → lettered charset text ≡ Some w → length w.behind ≤ length text
lettered_len charset text w e =
    let t = then_some (λ encoding. option_and_then (word_of charset encoding) (after 63 (drop 1 text))) (encoding_first text) w e in
    let u = then_some (word_of charset t.0) (after 63 (drop 1 text)) w t.2 in
    let a = after_len 63 (drop 1 text) u.0 u.1 in
    let b = word_len charset t.0 u.0 w u.2 in
    omega (arith, a, b, length-drop 1 text)

named_len : (text : List ℕ) (w : WordText) → named text ≡ Some w → length w.behind ≤ length text
named_len text w e =
    let n = prefix_len is_inner text in
    let t = then_some (λ charset. option_and_then (lettered charset) (after 63 (drop n text))) (charset_named (take n text)) w e in
    let u = then_some (lettered t.0) (after 63 (drop n text)) w t.2 in
    let a = after_len 63 (drop n text) u.0 u.1 in
    let b = lettered_len t.0 u.0 w u.2 in
    omega (arith, a, b, length-drop n text)

-- a word takes some of the text
pub first_len : (text : List ℕ) (w : WordText) → first_word text ≡ Some w → length w.behind < length text
unfolding first_word
first_len text w e =
    let t = then_some named (option_and_then (after 63) (after 61 text)) w e in
    let u = then_some (after 63) (after 61 text) t.0 t.1 in
    let a = after_len 61 text u.0 u.1 in
    let b = after_len 63 u.0 t.0 u.2 in
    let c = named_len t.0 w t.2 in
    omega (arith, a, b, c)

gap_by : (t : Bool) (behind text : List ℕ) → length behind ≤ length text → length (if t then behind else text) ≤ length text
gap_by true behind text le = le
gap_by false behind text le = omega arith

pub gap_len : (text : List ℕ) → length (without_gap text) ≤ length text
gap_len text =
    let n = prefix_len is_blank text in
    gap_by (is_some (first_word (drop n text))) (drop n text) text (omega (arith, length-drop n text))

by_word : (o : Option WordText) (c : ℕ) (rest : List ℕ) (f g : List ℕ → List ℕ) → f rest ≡ g rest → ((w : WordText) → o ≡ Some w → f (without_gap w.behind) ≡ g (without_gap w.behind)) →
    decoded_by o c rest f ≡ decoded_by o c rest g
by_word None c rest f g one word = ap (λ x. c ∷ x) one
by_word (Some w) c rest f g one word = ap (λ x. characters_of w ++ x) (word w refl)

-- more steps than characters change nothing
pub enough : (m n : ℕ) (text : List ℕ) → length text ≤ m → length text ≤ n → decoded_within m text ≡ decoded_within n text
enough zero zero text a b = refl
enough zero (suc n) [] a b = refl
enough zero (suc n) (c ∷ rest) a b = absurd (omega arith)
enough (suc m) zero [] a b = refl
enough (suc m) zero (c ∷ rest) a b = absurd (omega arith)
enough (suc m) (suc n) [] a b = refl
enough (suc m) (suc n) (c ∷ rest) a b =
    by_word (first_word (c ∷ rest)) c rest (decoded_within m) (decoded_within n) (enough m n rest (omega arith) (omega arith))
    (λ w e.
    let word = first_len (c ∷ rest) w e in
    let gap = gap_len w.behind in
    enough m n (without_gap w.behind) (omega (arith, word, gap)) (omega (arith, word, gap)))

pub step : (c : ℕ) (rest : List ℕ) → decoded (c ∷ rest) ≡ decoded_by (first_word (c ∷ rest)) c rest decoded
unfolding decoded
step c rest =
    by_word (first_word (c ∷ rest)) c rest (decoded_within (length rest)) (λ t. decoded_within (length t) t) refl
    (λ w e.
    let word = first_len (c ∷ rest) w e in
    let gap = gap_len w.behind in
    enough (length rest) (length (without_gap w.behind)) (without_gap w.behind) (omega (arith, word, gap)) (omega arith))

-- a word is put
pub word_put : (c : ℕ) (rest behind next old new all : List ℕ) (w : WordText) → rest ≡ c ∷ behind → first_word rest ≡ Some w → next ≡ without_gap w.behind → new ≡ old ++ characters_of w → old ++ decoded rest ≡ all →
    new ++ decoded next ≡ all
word_put c rest behind next old new all w er ew en es e =
    let here : decoded rest ≡ characters_of w ++ decoded next =
    ap decoded er ∙ step c behind ∙ ap (λ o. decoded_by o c behind decoded) (ap first_word (sym er) ∙ ew) ∙ ap (λ x. characters_of w ++ decoded x) (sym en) in
    ap (λ x. x ++ decoded next) es ∙ append_assoc old (characters_of w) (decoded next) ∙ ap (λ x. old ++ x) (sym here) ∙ e

-- a character is put
pub character_put : (c : ℕ) (rest behind old new all : List ℕ) → rest ≡ c ∷ behind → first_word rest ≡ None → new ≡ old ++ c ∷ [] → old ++ decoded rest ≡ all → new ++ decoded behind ≡ all
character_put c rest behind old new all er ew es e =
    let here : decoded rest ≡ c ∷ decoded behind = ap decoded er ∙ step c behind ∙ ap (λ o. decoded_by o c behind decoded) (ap first_word (sym er) ∙ ew) in
    ap (λ x. x ++ decoded behind) es ∙ append_assoc old (c ∷ []) (decoded behind) ∙ ap (λ x. old ++ x) (sym here) ∙ e

pub none_left : decoded [] ≡ []
unfolding decoded
none_left = refl

pub ended : (rest old all : List ℕ) → rest ≡ [] → old ++ decoded rest ≡ all → old ≡ all
ended rest old all none e = sym (append-nil old) ∙ ap (λ x. old ++ x) (sym (ap decoded none ∙ none_left)) ∙ e

-- what stands behind a word and its gap is shorter
pub shorter : (rest next : List ℕ) (w : WordText) → first_word rest ≡ Some w → next ≡ without_gap w.behind → length next < length rest
shorter rest next w ew en = let word = first_len rest w ew in let gap = gap_len w.behind in omega (arith, word, gap, ap length en)
