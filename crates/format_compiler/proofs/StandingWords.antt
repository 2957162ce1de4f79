-- Words that stand in a text.
use Rattle.std.proofs.Common.{◌≡◌, ℕ, List, [], ◌∷◌, ◌++◌, Ok, Err, refl, sym, ap, ◌∙◌, subst, append-nil}
use Rattle.format_compiler.specs.declared.word.Word.{Word}
use Rattle.format_compiler.specs.Formats.{AreWrongAt, IsStuck, Stand}
use Rattle.format_compiler.specs.Reading.{Read}
use Rattle.format_compiler.specs.Words.{behind_word, Open, word_in}

-- one word more stands
pub stand_more : (words : List Word) (word : Word) (o : Open) (text : List ℕ) (after : Open) (left behind : List ℕ) → Stand words o text after left
    → word_in after left ≡ Ok (word, behind) → Stand (words ++ word ∷ []) o text (behind_word word after) behind
stand_more [] word o text after left behind h is = (behind, (λ i. word_in (h.0 i) (h.1 i)) ∙ is, (ap (behind_word word) h.0, refl))
stand_more (w ∷ words) word o text after left behind (b, there, h) is = (b, there, stand_more words word (behind_word w o) b after left behind h is)

pub nothing_stands : (o : Open) (word : Word) (text behind : List ℕ) → text ≡ [] → word_in o text ≡ Ok (word, behind) → ⊥
unfolding word_in
nothing_stands o word text behind none is = let same : word_in o [] ≡ Ok (word, behind) = ap (word_in o) (sym none) ∙ is in cc

same_read : {A : Type 0} (a b : A × List ℕ) (read : Read A) → read ≡ Ok a → read ≡ Ok b → a ≡ b
same_read a b read p q = cc

pub record GoesOn (words all : List Word) (after : Open) (left : List ℕ) : Type 0 where
  pub others : List Word
  pub parts : all ≡ words ++ others
  pub stand : Stand others after left [] []

-- words that stand in all of a text begin with those that stand at its front
pub rest_stands : (words all : List Word) (o : Open) (text : List ℕ) (after : Open) (left : List ℕ) → Stand words o text after left → Stand all o text [] []
    → GoesOn words all after left
rest_stands [] all o text after left h k = record {
  others = all;
  parts = refl;
  stand = subst (λ (z : List ℕ). Stand all after z [] []) h.1 (subst (λ (z : Open). Stand all z text [] []) h.0 k);
}
rest_stands (w ∷ words) [] o text after left (b, is, h) k = absurd (nothing_stands o w text b k.1 is)
rest_stands (w ∷ words) (v ∷ all) o text after left (b, is, h) (d, there, k) =
    let same = same_read (v, d) (w, b) (word_in o text) there is in
    let here = subst (λ (z : Word × List ℕ). Stand all (behind_word z.0 o) z.1 [] []) same k in
    let on = rest_stands words all (behind_word w o) b after left h here in
    record { others = on.others; parts = (λ i. (ap (λ z. z.0) same i) ∷ on.parts i); stand = on.stand }

never_both : {A : Type 0} (x : A × List ℕ) (left : List ℕ) (read : Read A) → read ≡ Ok x → read ≡ Err left → ⊥
never_both x left read is wrong = cc

stuck_ends : (others : List Word) (after : Open) (text left : List ℕ) → IsStuck after text left → Stand others after text [] [] → ⊥
stuck_ends [] after [] left h k = h.0 k.0
stuck_ends [] after (c ∷ text) left h k = let e = k.1 in cc
stuck_ends (w ∷ others) after [] left h (b, is, k) = nothing_stands after w [] b refl is
stuck_ends (w ∷ others) after (c ∷ text) left h (b, is, k) = never_both (w, b) left (word_in after (c ∷ text)) is h

-- in characters that are wrong somewhere no words stand that are all of them
pub wrong_none : (characters left : List ℕ) (words : List Word) → AreWrongAt characters left → Stand words [] characters [] [] → ⊥
wrong_none characters left words wrong stand =
    let on = rest_stands wrong.words words [] characters wrong.after wrong.text wrong.stand stand in
    stuck_ends on.others wrong.after wrong.text left wrong.stuck on.stand

-- and no other words
pub words_alone : (words all : List Word) (o : Open) (text : List ℕ) → Stand words o text [] [] → Stand all o text [] [] → words ≡ all
words_alone words all o text h k =
    let on = rest_stands words all o text [] [] h k in
    ends on.others on.stand (sym on.parts)
  where
    ends : (others : List Word) → Stand others [] [] [] [] → words ++ others ≡ all → words ≡ all
    ends [] s e = sym (append-nil words) ∙ e
    ends (w ∷ others) (b, is, s) e = absurd (nothing_stands [] w [] b refl is)

pub stood : (words more : List Word) (word : Word) (text : List ℕ) (after behind_it : Open) (left behind : List ℕ) → Stand words [] text after left
    → word_in after left ≡ Ok (word, behind) → more ≡ words ++ word ∷ [] → behind_it ≡ behind_word word after → Stand more [] text behind_it behind
stood words more word text after behind_it left behind h is pushed passed =
    subst (λ (z : List Word). Stand z [] text behind_it behind) (sym pushed)
    (subst (λ (z : Open). Stand (words ++ word ∷ []) [] text z behind) (sym passed) (stand_more words word [] text after left behind h is))
