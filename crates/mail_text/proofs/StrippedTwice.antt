-- A text on one line is so already; and it has characters just where the text has one that is no gap.
use Rattle.std.proofs.Common.{◌≡◌, ℕ, Bool, true, false, List, [], ◌∷◌, ◌++◌, length, refl, sym, ap, ◌∙◌, arith}
use Rattle.std.specs.Prelude.{◌==◌, not}
use Rattle.std.specs.List.{list_any}
use Rattle.mail_text.proofs.Emptiness.{not_zero}
use Rattle.mail_text.specs.Stripping.{is_gap, spaced, joined, stripped}
use Rattle.mh_base.specs.Characters.{ends_word, longer, words}

-- what a separator's test says of a word's characters, and of words
abbrev AreInside : (ℕ → Bool) → List ℕ → Type 0
AreInside s [] = Unit {0}
AreInside s (c ∷ w) = (s c ≡ false) × AreInside s w

abbrev IsWord : (ℕ → Bool) → List ℕ → Type 0
IsWord s [] = ⊥
IsWord s (c ∷ w) = (s c ≡ false) × AreInside s w

abbrev AreWords : (ℕ → Bool) → List (List ℕ) → Type 0
AreWords s [] = Unit {0}
AreWords s (w ∷ ws) = IsWord s w × AreWords s ws

inside : (s : ℕ → Bool) (w : List ℕ) → IsWord s w → AreInside s w
inside s [] f = tt
inside s (c ∷ w) f = f

passed : (s : ℕ → Bool) (c : ℕ) (rest : List ℕ) → s c ≡ true → words s (c ∷ rest) ≡ words s rest
unfolding words
passed s c rest e = rw e refl

one : (s : ℕ → Bool) (c : ℕ) (rest : List ℕ) → s c ≡ false → ends_word s rest ≡ true → words s (c ∷ rest) ≡ (c ∷ []) ∷ words s rest
unfolding words
one s c rest e end = rw (e, end) refl

more : (s : ℕ → Bool) (c : ℕ) (rest : List ℕ) → s c ≡ false → ends_word s rest ≡ false → words s (c ∷ rest) ≡ longer c (words s rest)
unfolding words
more s c rest e goes = rw (e, goes) refl

none : (s : ℕ → Bool) → words s [] ≡ []
unfolding words
none s = refl

longer_words : (s : ℕ → Bool) (c : ℕ) (ws : List (List ℕ)) → s c ≡ false → AreWords s ws → AreWords s (longer c ws)
longer_words s c [] e f = ((e, tt), tt)
longer_words s c (w ∷ ws) e f = ((e, inside s w f.0), f.1)

are_words : (s : ℕ → Bool) (text : List ℕ) → AreWords s (words s text)
are_words s [] = rw (none s) tt
are_words s (c ∷ rest) = go (s c) refl (ends_word s rest) refl (are_words s rest)
  where
    go : (b : Bool) → s c ≡ b → (t : Bool) → ends_word s rest ≡ t → AreWords s (words s rest) → AreWords s (words s (c ∷ rest))
    go true e t end f = rw (passed s c rest e) f
    go false e true end f = rw (one s c rest e end) ((e, tt), f)
    go false e false end f = rw (more s c rest e end) (longer_words s c (words s rest) e f)

-- a word before a separator is the first one
first_word : (s : ℕ → Bool) (w rest : List ℕ) → IsWord s w → ends_word s rest ≡ true → words s (w ++ rest) ≡ w ∷ words s rest
first_word s [] rest f end = absurd f
first_word s (c ∷ []) rest f end = one s c rest f.0 end
first_word s (c ∷ d ∷ w) rest f end =
    more s c (d ∷ (w ++ rest)) f.0 f.1.0 ∙ ap (longer c) (first_word s (d ∷ w) rest f.1 end)

spaced_ends : (s : ℕ → Bool) (ws : List (List ℕ)) → s 32 ≡ true → ends_word s (spaced ws) ≡ true
spaced_ends s [] e = refl
spaced_ends s (w ∷ ws) e = e

spaced_words : (s : ℕ → Bool) (ws : List (List ℕ)) → s 32 ≡ true → AreWords s ws → words s (spaced ws) ≡ ws
spaced_words s [] e f = none s
spaced_words s (w ∷ ws) e f =
    passed s 32 (w ++ spaced ws) e ∙ first_word s w (spaced ws) f.0 (spaced_ends s ws e) ∙ ap (λ l. w ∷ l) (spaced_words s ws e f.1)

joined_words : (s : ℕ → Bool) (ws : List (List ℕ)) → s 32 ≡ true → AreWords s ws → words s (joined ws) ≡ ws
joined_words s [] e f = none s
joined_words s (w ∷ ws) e f = first_word s w (spaced ws) f.0 (spaced_ends s ws e) ∙ ap (λ l. w ∷ l) (spaced_words s ws e f.1)

-- to strip a second time changes nothing
pub stripped_twice : (text : List ℕ) → stripped (stripped text) ≡ stripped text
stripped_twice text = ap joined (joined_words is_gap (words is_gap text) refl (are_words is_gap text))

joined_none : (s : ℕ → Bool) (ws : List (List ℕ)) → AreWords s ws → (length (joined ws) == 0) ≡ (length ws == 0)
joined_none s [] f = refl
joined_none s ([] ∷ ws) f = absurd (f.0)
joined_none s ((c ∷ w) ∷ ws) f = not_zero (length (joined ((c ∷ w) ∷ ws))) (omega arith) ∙ sym (not_zero (length ((c ∷ w) ∷ ws)) (omega arith))

longer_some : (c : ℕ) (ws : List (List ℕ)) → (length (longer c ws) == 0) ≡ false
longer_some c [] = refl
longer_some c (w ∷ ws) = not_zero (length ((c ∷ w) ∷ ws)) (omega arith)

words_none : (s : ℕ → Bool) (text : List ℕ) → (length (words s text) == 0) ≡ not (list_any (λ c. not (s c)) text)
words_none s [] = rw (none s) refl
words_none s (c ∷ rest) = go (s c) refl (ends_word s rest) refl (words_none s rest)
  where
    go : (b : Bool) → s c ≡ b → (t : Bool) → ends_word s rest ≡ t → (length (words s rest) == 0) ≡ not (list_any (λ x. not (s x)) rest) → (length (words s (c ∷ rest)) == 0) ≡ not (list_any (λ x. not (s x)) (c ∷ rest))
    go true e t end f = rw (passed s c rest e, e) f
    go false e true end f = rw (one s c rest e end, e) (not_zero (length ((c ∷ []) ∷ words s rest)) (omega arith))
    go false e false end f = rw (more s c rest e end, e) (longer_some c (words s rest))

-- it is empty where each character is a gap
pub stripped_none : (text : List ℕ) → (length (stripped text) == 0) ≡ not (list_any (λ c. not (is_gap c)) text)
stripped_none text = joined_none is_gap (words is_gap text) (are_words is_gap text) ∙ words_none is_gap text
