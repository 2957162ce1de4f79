-- An encoded word and its spelling.
use Rattle.std.proofs.Common.{◌≡◌, ℕ, suc, Bool, true, false, eqb, Some, None, List, [], ◌∷◌, ◌++◌, length, take, drop, refl, sym, ap, subst, ◌∙◌}
use Rattle.std.specs.Prelude.{option_and_then, if◌then◌else◌}
use Rattle.std.specs.List.{prefix_len, list_all}
use Rattle.std.proofs.Math.Seq.{take-append_seam, drop-append_seam}
use Rattle.std.proofs.lemmas.Bool.{and_parts, eqb-true}
use Rattle.std.proofs.lemmas.List.{take-append-drop}
use Rattle.mh_base.proofs.Prefixes.{prefix_more, prefix_none}
use Rattle.mail_text.specs.declared.charset.Charset.{Charset}
use Rattle.mail_text.specs.declared.encoding.Encoding.{Encoding}
use Rattle.mail_text.specs.EncodedWords.{WordText, after, is_inner, is_text, charset_named, encoding_of, encoding_first, closed, word_of, lettered, named, first_word}
use Rattle.mail_text.specs.WordPieces.{BeginsWith}
use Rattle.mail_text.proofs.Wording.{then_some}

-- a front that passes before one that does not
pub prefix_exact : (p : ℕ → Bool) (front rest : List ℕ) (c : ℕ) → list_all p front ≡ true → p c ≡ false → prefix_len p (front ++ c ∷ rest) ≡ length front
prefix_exact p [] rest c all e = prefix_none p c rest e
prefix_exact p (b ∷ front) rest c all e =
    let both = and_parts (p b) (list_all p front) all in
    prefix_more p b (front ++ c ∷ rest) both.0 ∙ ap suc (prefix_exact p front rest c both.1 e)

prefix_by : (p : ℕ → Bool) (t : Bool) (b : ℕ) (rest : List ℕ) → p b ≡ t → list_all p (take (prefix_len p rest) rest) ≡ true → list_all p (take (prefix_len p (b ∷ rest)) (b ∷ rest)) ≡ true
prefix_by p true b rest e more = rw (prefix_more p b rest e, e) more
prefix_by p false b rest e more = rw (prefix_none p b rest e) refl

pub prefix_passes : (p : ℕ → Bool) (text : List ℕ) → list_all p (take (prefix_len p text) text) ≡ true
prefix_passes p [] = refl
prefix_passes p (b ∷ rest) = prefix_by p (p b) b rest refl (prefix_passes p rest)

-- what is spelled so is read so

word_read : (charset : Charset) (encoding : Encoding) (front behind : List ℕ) → list_all is_text front ≡ true →
    word_of charset encoding (front ++ 63 ∷ 61 ∷ behind) ≡ Some record { charset = charset; encoding = encoding; text = front; behind = behind }
word_read charset encoding front behind all =
    rw (prefix_exact is_text front (61 ∷ behind) 63 all refl, take-append_seam front (63 ∷ 61 ∷ behind), drop-append_seam front (63 ∷ 61 ∷ behind)) refl

lettered_read : (charset : Charset) (encoding : Encoding) (letter : ℕ) (rest : List ℕ) → encoding_of letter ≡ Some encoding → lettered charset (letter ∷ 63 ∷ rest) ≡ word_of charset encoding rest
lettered_read charset encoding letter rest e = rw e refl

named_read : (charset : Charset) (name rest : List ℕ) → charset_named name ≡ Some charset → list_all is_inner name ≡ true → named (name ++ 63 ∷ rest) ≡ lettered charset rest
named_read charset name rest e all =
    rw (prefix_exact is_inner name rest 63 all refl, take-append_seam name (63 ∷ rest), drop-append_seam name (63 ∷ rest), e) refl

first_named : (text : List ℕ) → first_word (61 ∷ 63 ∷ text) ≡ named text
unfolding first_word
first_named text = refl

pub word_first : (w : WordText) (text : List ℕ) → BeginsWith w text → first_word text ≡ Some w
word_first w text b =
    ap first_word b.spelled ∙ first_named (b.name ++ (63 ∷ b.letter ∷ 63 ∷ (w.text ++ (63 ∷ 61 ∷ w.behind))))
    ∙ named_read w.charset b.name (b.letter ∷ 63 ∷ (w.text ++ (63 ∷ 61 ∷ w.behind))) b.charset b.name_whole
    ∙ lettered_read w.charset w.encoding b.letter (w.text ++ (63 ∷ 61 ∷ w.behind)) b.encoding ∙ word_read w.charset w.encoding w.text w.behind b.text_whole

-- what is read so is spelled so

after_by : (t : Bool) (c d : ℕ) (rest r : List ℕ) → eqb d c ≡ t → (if t then Some rest else None) ≡ Some r → d ∷ rest ≡ c ∷ r
after_by true c d rest r e is = let head : d ≡ c = eqb-true d c e in let tail : rest ≡ r = cc is in ap (λ x. x ∷ rest) head ∙ ap (λ x. c ∷ x) tail
after_by false c d rest r e is = cc is

after_is : (c : ℕ) (text rest : List ℕ) → after c text ≡ Some rest → text ≡ c ∷ rest
after_is c [] rest e = cc e
after_is c (d ∷ text) rest e = after_by (eqb d c) c d text rest refl e

closed_is : (text rest : List ℕ) → closed text ≡ Some rest → text ≡ 63 ∷ 61 ∷ rest
closed_is text rest e =
    let t = then_some (after 61) (after 63 text) rest e in
    after_is 63 text t.0 t.1 ∙ ap (λ x. 63 ∷ x) (after_is 61 t.0 rest t.2)

-- a word behind its letter
record Texted (charset : Charset) (encoding : Encoding) (w : WordText) (text : List ℕ) : Type 0 where
  charset_is : charset ≡ w.charset
  encoding_is : encoding ≡ w.encoding
  spelled : text ≡ w.text ++ 63 ∷ 61 ∷ w.behind
  whole : list_all is_text w.text ≡ true

texted : (charset : Charset) (encoding : Encoding) (text : List ℕ) (w : WordText) → word_of charset encoding text ≡ Some w → Texted charset encoding w text
texted charset encoding text w e =
    let n = prefix_len is_text text in
    let t = then_some (λ behind. Some record { charset = charset; encoding = encoding; text = take n text; behind = behind }) (closed (drop n text)) w e in
    let spelling : text ≡ take n text ++ 63 ∷ 61 ∷ t.0 = sym (take-append-drop n text) ∙ ap (λ x. take n text ++ x) (closed_is (drop n text) t.0 t.1) in
    made record { charset = charset; encoding = encoding; text = take n text; behind = t.0 } w t.2
    record { charset_is = refl; encoding_is = refl; spelled = spelling; whole = prefix_passes is_text text }
  where
    made : (v u : WordText) → Some v ≡ Some u → Texted charset encoding v text → Texted charset encoding u text
    made v u same is = let e : v ≡ u = cc same in subst (λ x. Texted charset encoding x text) e is

letter_first : (text : List ℕ) (encoding : Encoding) → encoding_first text ≡ Some encoding → (letter : ℕ) × (text ≡ letter ∷ drop 1 text) × (encoding_of letter ≡ Some encoding)
letter_first [] encoding e = cc e
letter_first (c ∷ rest) encoding e = (c, refl, e)

pub first_begins : (w : WordText) (text : List ℕ) → first_word text ≡ Some w → BeginsWith w text
unfolding first_word
first_begins w text e =
    let begun = then_some named (option_and_then (after 63) (after 61 text)) w e in
    let mark = then_some (after 63) (after 61 text) begun.0 begun.1 in
    let n = prefix_len is_inner begun.0 in
    let name = then_some (λ charset. option_and_then (lettered charset) (after 63 (drop n begun.0))) (charset_named (take n begun.0)) w begun.2 in
    let from = then_some (lettered name.0) (after 63 (drop n begun.0)) w name.2 in
    let code = then_some (λ encoding. option_and_then (word_of name.0 encoding) (after 63 (drop 1 from.0))) (encoding_first from.0) w from.2 in
    let inner = then_some (word_of name.0 code.0) (after 63 (drop 1 from.0)) w code.2 in
    let letter = letter_first from.0 code.0 code.1 in
    let t = texted name.0 code.0 inner.0 w inner.2 in
    let tail : from.0 ≡ letter.0 ∷ 63 ∷ (w.text ++ (63 ∷ 61 ∷ w.behind)) =
    letter.1 ∙ ap (λ x. letter.0 ∷ x) (after_is 63 (drop 1 from.0) inner.0 inner.1 ∙ ap (λ x. 63 ∷ x) t.spelled) in
    record {
      name = take n begun.0;
      letter = letter.0;
      spelled =
          after_is 61 text mark.0 mark.1 ∙ ap (λ x. 61 ∷ x) (after_is 63 mark.0 begun.0 mark.2)
          ∙ ap (λ x. 61 ∷ 63 ∷ x) (sym (take-append-drop n begun.0) ∙ ap (λ x. take n begun.0 ++ x) (after_is 63 (drop n begun.0) from.0 from.1 ∙ ap (λ x. 63 ∷ x) tail));
      charset = name.1 ∙ ap Some t.charset_is;
      encoding = letter.2 ∙ ap Some t.encoding_is;
      name_whole = prefix_passes is_inner begun.0;
      text_whole = t.whole;
    }
