-- Words, byte by byte.
use Rattle.std.proofs.Common.{◌≡◌, ℕ, zero, suc, ◌≤◌, Bool, true, false, List, [], ◌∷◌, ◌++◌, length, take, refl, sym, ap, ◌∙◌, arith, append_assoc}
use Rattle.std.specs.Prelude.{◌&&◌}
use Rattle.std.specs.List.{list_all}
use Rattle.std.proofs.lemmas.List.{take_at, length-take-le}
use Rattle.mail_dates.specs.Names.{is_letter}
use Rattle.mail_dates.specs.Seen.{WordView}
use Rattle.mail_dates.specs.WordView.{view_of, pushed}
use Rattle.mh_base.specs.Characters.{words, ends_word, longer}

-- a full view keeps its front
pub full_kept : (bytes : List ℕ) (len b : ℕ) (letters t : Bool) (view : WordView) → length bytes ≡ 13 → len ≤ 13 → 13 ≤ len → t ≡ is_letter b → record { front = take len bytes; letters = letters } ≡ view →
    record { front = take len bytes; letters = letters && t } ≡ pushed view b
full_kept bytes len b letters t view size most least et e =
    let whole : length (take len bytes) ≡ 13 = omega (arith, length-take-le len bytes (omega arith)) in
    rw (← e, et) (ap (λ f. record { front = f; letters = letters && is_letter b }) (sym (take_at (take len bytes) (b ∷ []) 13 whole)))

take_pushed : (n b : ℕ) (word : List ℕ) → take n (take n word ++ b ∷ []) ≡ take n (word ++ b ∷ [])
take_pushed zero b word = refl
take_pushed (suc n) b [] = refl
take_pushed (suc n) b (c ∷ word) = ap (λ x. c ∷ x) (take_pushed n b word)

and_last : (t : Bool) → t ≡ (t && true)
and_last true = refl
and_last false = refl

and_moved : (s a t : Bool) → ((s && a) && t) ≡ (s && (a && t))
and_moved true a t = refl
and_moved false a t = refl

letters_pushed : (b : ℕ) (word : List ℕ) → (list_all is_letter word && is_letter b) ≡ list_all is_letter (word ++ b ∷ [])
letters_pushed b [] = and_last (is_letter b)
letters_pushed b (c ∷ word) = and_moved (is_letter c) (list_all is_letter word) (is_letter b) ∙ ap (λ x. is_letter c && x) (letters_pushed b word)

-- the view of a word with one byte more
pub view_pushed : (b : ℕ) (word : List ℕ) (view new : WordView) → view ≡ view_of word → new ≡ pushed view b → new ≡ view_of (word ++ b ∷ [])
view_pushed b word view new e is = is ∙ ap (λ v. pushed v b) e ∙ rw (take_pushed 13 b word, letters_pushed b word) refl

-- bytes that are no separators, of which there are some
abbrev pub IsToken : (ℕ → Bool) → List ℕ → Type 0
IsToken separates [] = ⊥
IsToken separates (b ∷ []) = separates b ≡ false
IsToken separates (b ∷ c ∷ rest) = (separates b ≡ false) × IsToken separates (c ∷ rest)

pub token_pushed : (separates : ℕ → Bool) (b : ℕ) (word : List ℕ) → IsToken separates word → separates b ≡ false → IsToken separates (word ++ b ∷ [])
token_pushed separates b [] is e = absurd is
token_pushed separates b (c ∷ []) is e = (is, e)
token_pushed separates b (c ∷ d ∷ word) is e = (is.0, token_pushed separates b (d ∷ word) is.1 e)

pub separator_passed : (separates : ℕ → Bool) (b : ℕ) (rest : List ℕ) → separates b ≡ true → words separates (b ∷ rest) ≡ words separates rest
unfolding words
separator_passed separates b rest e = rw e refl

pub no_words : (separates : ℕ → Bool) (text : List ℕ) → text ≡ [] → words separates text ≡ []
unfolding words
no_words separates text e = rw e refl

one_ended : (separates : ℕ → Bool) (b : ℕ) (rest : List ℕ) → separates b ≡ false → ends_word separates rest ≡ true → words separates (b ∷ rest) ≡ (b ∷ []) ∷ words separates rest
unfolding words
one_ended separates b rest e end = rw (e, end) refl

more_first : (separates : ℕ → Bool) (b c : ℕ) (rest : List ℕ) → separates b ≡ false → separates c ≡ false → words separates (b ∷ c ∷ rest) ≡ longer b (words separates (c ∷ rest))
unfolding words
more_first separates b c rest eb ec = rw (eb, ec) refl

one_more : (separates : ℕ → Bool) (b c : ℕ) (rest word : List ℕ) (more : List (List ℕ)) → separates b ≡ false → separates c ≡ false → words separates (c ∷ rest) ≡ word ∷ more → words separates (b ∷ c ∷ rest) ≡ (b ∷ word) ∷ more
one_more separates b c rest word more eb ec e = more_first separates b c rest eb ec ∙ ap (longer b) e

head_plain : (separates : ℕ → Bool) (c : ℕ) (word : List ℕ) → IsToken separates (c ∷ word) → separates c ≡ false
head_plain separates c [] is = is
head_plain separates c (d ∷ word) is = is.0

-- a word before an end
pub word_cut : (separates : ℕ → Bool) (word rest : List ℕ) → IsToken separates word → ends_word separates rest ≡ true → words separates (word ++ rest) ≡ word ∷ words separates rest
word_cut separates [] rest is end = absurd is
word_cut separates (b ∷ []) rest is end = one_ended separates b rest is end
word_cut separates (b ∷ c ∷ word) rest is end =
    one_more separates b c (word ++ rest) (c ∷ word) (words separates rest) is.0 (head_plain separates c word is.1) (word_cut separates (c ∷ word) rest is.1 end)

pub word_before : (separates : ℕ → Bool) (word text more : List ℕ) (b : ℕ) → IsToken separates word → separates b ≡ true → text ≡ b ∷ more → words separates (word ++ text) ≡ word ∷ words separates more
word_before separates word text more b is e et = rw et (word_cut separates word (b ∷ more) is e ∙ ap (λ w. word ∷ w) (separator_passed separates b more e))

pub word_last : (separates : ℕ → Bool) (word text more : List ℕ) → IsToken separates word → text ≡ [] → more ≡ [] → words separates (word ++ text) ≡ word ∷ words separates more
word_last separates word text more is et em = rw (et, em) (word_cut separates word [] is refl)

pub word_grows : (separates : ℕ → Bool) (word text more : List ℕ) (b : ℕ) (all : List (List ℕ)) → text ≡ b ∷ more → words separates (word ++ text) ≡ all → words separates ((word ++ b ∷ []) ++ more) ≡ all
word_grows separates word text more b all et e = ap (words separates) (append_assoc word (b ∷ []) more ∙ ap (λ t. word ++ t) (sym et)) ∙ e
