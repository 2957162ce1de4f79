-- The first word of a text.
use Rattle.std.proofs.Common.{◌≡◌, ℕ, Bool, true, false, List, [], ◌∷◌, take, drop, refl, sym, ap, ◌∙◌}
use Rattle.std.specs.Prelude.{not}
use Rattle.std.specs.List.{prefix_len}
use Rattle.std.proofs.lemmas.List.{take-append-drop}
use Rattle.mh_base.proofs.Prefixes.{prefix_more, prefix_none}
use Rattle.mail_dates.proofs.Cutting.{IsToken, separator_passed, no_words, word_cut}
use Rattle.mh_base.specs.Characters.{words, ends_word}

skipped_by : (p : ℕ → Bool) (t : Bool) (b : ℕ) (rest : List ℕ) → p b ≡ t → words p rest ≡ words p (drop (prefix_len p rest) rest) → words p (b ∷ rest) ≡ words p (drop (prefix_len p (b ∷ rest)) (b ∷ rest))
skipped_by p true b rest e more = rw (prefix_more p b rest e) (separator_passed p b rest e ∙ more)
skipped_by p false b rest e more = rw (prefix_none p b rest e) refl

-- separators in front are passed
pub skipped : (p : ℕ → Bool) (text : List ℕ) → words p text ≡ words p (drop (prefix_len p text) text)
skipped p [] = refl
skipped p (b ∷ rest) = skipped_by p (p b) b rest refl (skipped p rest)

head_by : (p : ℕ → Bool) (t : Bool) (b : ℕ) (rest : List ℕ) (c : ℕ) (r : List ℕ) → p b ≡ t → drop (prefix_len p (b ∷ rest)) (b ∷ rest) ≡ c ∷ r → (drop (prefix_len p rest) rest ≡ c ∷ r → p c ≡ false) → p c ≡ false
head_by p true b rest c r e is more = more (rw (prefix_more p b rest e) at is)
head_by p false b rest c r e is more = let same : b ≡ c = cc (rw (prefix_none p b rest e) at is) in ap p (sym same) ∙ e

head_plain : (p : ℕ → Bool) (text : List ℕ) (c : ℕ) (r : List ℕ) → drop (prefix_len p text) text ≡ c ∷ r → p c ≡ false
head_plain p [] c r is = cc is
head_plain p (b ∷ rest) c r is = head_by p (p b) b rest c r refl is (head_plain p rest c r)

abbrev others : (ℕ → Bool) → ℕ → Bool
others p b = not (p b)

others_true : (p : ℕ → Bool) (b : ℕ) → p b ≡ false → others p b ≡ true
others_true p b e = rw e refl

others_false : (p : ℕ → Bool) (b : ℕ) → p b ≡ true → others p b ≡ false
others_false p b e = rw e refl

token_by : (p : ℕ → Bool) (t : Bool) (b c : ℕ) (rest : List ℕ) → p b ≡ false → p c ≡ t → (p c ≡ false → IsToken p (take (prefix_len (others p) (c ∷ rest)) (c ∷ rest))) → IsToken p (take (prefix_len (others p) (b ∷ c ∷ rest)) (b ∷ c ∷ rest))
token_by p true b c rest eb ec more = rw (prefix_more (others p) b (c ∷ rest) (others_true p b eb), prefix_none (others p) c rest (others_false p c ec)) eb
token_by p false b c rest eb ec more =
    let one = prefix_more (others p) c rest (others_true p c ec) in
    rw (prefix_more (others p) b (c ∷ rest) (others_true p b eb), one) (eb, rw one at (more ec))

token_front : (p : ℕ → Bool) (b : ℕ) (rest : List ℕ) → p b ≡ false → IsToken p (take (prefix_len (others p) (b ∷ rest)) (b ∷ rest))
token_front p b [] e = rw (prefix_more (others p) b [] (others_true p b e)) e
token_front p b (c ∷ rest) e = token_by p (p c) b c rest e refl (token_front p c rest)

ends_by : (p : ℕ → Bool) (t : Bool) (b : ℕ) (rest : List ℕ) → p b ≡ t → ends_word p (drop (prefix_len (others p) rest) rest) ≡ true → ends_word p (drop (prefix_len (others p) (b ∷ rest)) (b ∷ rest)) ≡ true
ends_by p true b rest e more = rw (prefix_none (others p) b rest (others_false p b e)) e
ends_by p false b rest e more = rw (prefix_more (others p) b rest (others_true p b e)) more

word_ends : (p : ℕ → Bool) (text : List ℕ) → ends_word p (drop (prefix_len (others p) text) text) ≡ true
word_ends p [] = refl
word_ends p (b ∷ rest) = ends_by p (p b) b rest refl (word_ends p rest)

first_cut : (p : ℕ → Bool) (b : ℕ) (rest : List ℕ) → p b ≡ false → words p (b ∷ rest) ≡ take (prefix_len (others p) (b ∷ rest)) (b ∷ rest) ∷ words p (drop (prefix_len (others p) (b ∷ rest)) (b ∷ rest))
first_cut p b rest e =
    let n = prefix_len (others p) (b ∷ rest) in
    sym (ap (words p) (take-append-drop n (b ∷ rest))) ∙ word_cut p (take n (b ∷ rest)) (drop n (b ∷ rest)) (token_front p b rest e) (word_ends p (b ∷ rest))

-- no word is left
pub none_cut : (p : ℕ → Bool) (text from : List ℕ) (n : ℕ) → n ≡ prefix_len p text → from ≡ drop n text → from ≡ [] → words p text ≡ []
none_cut p text from n en ef none = skipped p text ∙ no_words p _ (sym (ef ∙ ap (λ k. drop k text) en) ∙ none)

word_first : (p : ℕ → Bool) (text from : List ℕ) → from ≡ drop (prefix_len p text) text → (from ≡ [] → ⊥) → words p from ≡ take (prefix_len (others p) from) from ∷ words p (drop (prefix_len (others p) from) from)
word_first p text [] ef some = absurd (some refl)
word_first p text (b ∷ rest) ef some = first_cut p b rest (head_plain p text b rest (sym ef))

-- a word is cut off
pub word_parted : (p : ℕ → Bool) (text from word rest : List ℕ) (n k : ℕ) → n ≡ prefix_len p text → from ≡ drop n text → (from ≡ [] → ⊥) → k ≡ prefix_len (others p) from → word ≡ take k from → rest ≡ drop k from →
    words p text ≡ word ∷ words p rest
word_parted p text from word rest n k en ef some ek ew er =
    let same : from ≡ drop (prefix_len p text) text = ef ∙ ap (λ m. drop m text) en in
    skipped p text ∙ ap (words p) (sym same) ∙ word_first p text from same some
    ∙ ap (λ m. take m from ∷ words p (drop m from)) (sym ek) ∙ ap (λ w. w ∷ words p (drop k from)) (sym ew) ∙ ap (λ r. word ∷ words p r) (sym er)
