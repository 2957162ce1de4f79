-- Texts cut in two.
use Rattle.std.proofs.Common.{◌≡◌, ℕ, suc, ◌+◌, Bool, true, false, Some, None, List, [], ◌∷◌, ◌++◌, length, take, drop, refl, sym, ◌∙◌, ap, arith}
use Rattle.std.specs.Prelude.{◌==◌, not, Option}
use Rattle.std.specs.List.{list_any, prefix_len}
use Rattle.std.proofs.lemmas.Bool.{cond-true, cond-false, eq-eqb, eqb-true, or_parts}
use Rattle.mh_sequences.proofs.Bools.{choose}
use Rattle.msg_ranges.specs.Forms.{Halves, halves, longer}

-- the byte stands in the text
abbrev pub stands : ℕ → List ℕ → Bool
stands mark text = list_any (λ b. b == mark) text

pub halves_found : (mark : ℕ) (front back : List ℕ) → stands mark front ≡ false → halves mark (front ++ (mark ∷ back)) ≡ Some (record { front = front; back = back })
halves_found mark [] back h = cond-true (mark == mark) (Some (record { front = []; back = back })) (longer mark (halves mark back)) (eq-eqb mark mark refl)
halves_found mark (b ∷ front) back h =
    let parts = or_parts (b == mark) (stands mark front) h in
    cond-false (b == mark) (Some (record { front = []; back = front ++ (mark ∷ back) })) (longer b (halves mark (front ++ (mark ∷ back)))) parts.0 ∙ ap (longer b) (halves_found mark front back parts.1)

pub halves_none : (mark : ℕ) (text : List ℕ) → stands mark text ≡ false → halves mark text ≡ None
halves_none mark [] h = refl
halves_none mark (b ∷ text) h =
    let parts = or_parts (b == mark) (stands mark text) h in
    cond-false (b == mark) (Some (record { front = []; back = text })) (longer b (halves mark text)) parts.0 ∙ ap (longer b) (halves_none mark text parts.1)

longer_is : (mark b : ℕ) (text : List ℕ) (o : Option Halves) (h : Halves) → ((k : Halves) → o ≡ Some k → text ≡ k.front ++ (mark ∷ k.back)) → longer b o ≡ Some h → b ∷ text ≡ h.front ++ (mark ∷ h.back)
longer_is mark b text None h ih e = cc
longer_is mark b text (Some k) h ih e =
    let same : record { front = b ∷ k.front; back = k.back } ≡ h = cc in
    ap (λ l. b ∷ l) (ih k refl) ∙ ap (λ z. z.front ++ (mark ∷ z.back)) same

-- the halves and the byte between them are the text
pub halves_are : (mark : ℕ) (text : List ℕ) (h : Halves) → halves mark text ≡ Some h → text ≡ h.front ++ (mark ∷ h.back)
halves_are mark [] h e = cc
halves_are mark (b ∷ text) h is =
    choose (λ o. o ≡ Some h → b ∷ text ≡ h.front ++ (mark ∷ h.back)) (b == mark) (Some (record { front = []; back = text })) (longer b (halves mark text))
    (λ t e. let same : record { front = []; back = text } ≡ h = cc in ap (λ z. z ∷ text) (eqb-true b mark t) ∙ ap (λ z. z.front ++ (mark ∷ z.back)) same)
    (λ f e. longer_is mark b text (halves mark text) h (halves_are mark text) e)
    is

-- what stands from a place on, behind the part before it
cut : List ℕ → List ℕ → Option Halves
cut front [] = None
cut front (b ∷ back) = Some (record { front = front; back = back })

cut_longer : (b : ℕ) (front behind : List ℕ) → cut (b ∷ front) behind ≡ longer b (cut front behind)
unfolding cut
cut_longer b front [] = refl
cut_longer b front (c ∷ back) = refl

by_prefix : (mark : ℕ) (text : List ℕ) → halves mark text ≡ cut (take (prefix_len (λ b. not (b == mark)) text) text) (drop (prefix_len (λ b. not (b == mark)) text) text)
unfolding cut
by_prefix mark [] = refl
by_prefix mark (b ∷ text) = by (b == mark) refl (by_prefix mark text)
  where
    by : (t : Bool) → (b == mark) ≡ t → halves mark text ≡ cut (take (prefix_len (λ b. not (b == mark)) text) text) (drop (prefix_len (λ b. not (b == mark)) text) text) → halves mark (b ∷ text) ≡ cut (take (prefix_len (λ b. not (b == mark)) (b ∷ text)) (b ∷ text)) (drop (prefix_len (λ b. not (b == mark)) (b ∷ text)) (b ∷ text))
    by true e ih = rw e refl
    by false e ih =
        let on : 1 + prefix_len (λ b. not (b == mark)) text ≡ suc (prefix_len (λ b. not (b == mark)) text) = omega arith in
        rw (e, on) (ap (longer b) ih ∙ sym (cut_longer b (take (prefix_len (λ b. not (b == mark)) text) text) (drop (prefix_len (λ b. not (b == mark)) text) text)))

pub cut_some : (mark : ℕ) (text : List ℕ) (n b : ℕ) (back : List ℕ) → n ≡ prefix_len (λ b. not (b == mark)) text → drop n text ≡ b ∷ back → halves mark text ≡ Some (record { front = take n text; back = back })
unfolding cut
cut_some mark text n b back e f = by_prefix mark text ∙ (λ i. cut (take (sym e i) text) (drop (sym e i) text)) ∙ ap (cut (take n text)) f

pub cut_none : (mark : ℕ) (text : List ℕ) (n : ℕ) → n ≡ prefix_len (λ b. not (b == mark)) text → drop n text ≡ [] → halves mark text ≡ None
unfolding cut
cut_none mark text n e f = by_prefix mark text ∙ (λ i. cut (take (sym e i) text) (drop (sym e i) text)) ∙ ap (cut (take n text)) f

pub no_length : (xs : List ℕ) → length xs ≡ 0 → xs ≡ []
no_length [] e = refl
no_length (x ∷ xs) e = absurd (omega arith)
