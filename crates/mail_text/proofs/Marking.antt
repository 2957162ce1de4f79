-- The characters of an address, one by one.
use Rattle.std.proofs.Common.{◌≡◌, ℕ, ◌+◌, ◌<◌, ◌≤◌, List, [], ◌∷◌, ◌++◌, length, get_or, take, drop, refl, sym, ap, ◌∙◌, append_assoc, append-nil, Bool}
use Rattle.std.specs.List.{position_or_len, before_first, after_first}
use Rattle.std.proofs.lemmas.List.{drop_more, drop_all, drop-drop}
use Rattle.mail_text.specs.declared.marks.Inside.{Inside}
use Rattle.mail_text.specs.declared.marks.Mark.{Mark}
use Rattle.mail_text.specs.declared.marks.Surrounding.{Surrounding}
use Rattle.mail_text.specs.Marks.{inside_behind, place_of, marks_from}

abbrev mark : Inside → ℕ → Mark
mark inside c = record { place = place_of inside; c = c }

first_marked : (inside : Inside) (c : ℕ) (rest : List ℕ) → marks_from inside (c ∷ rest) ≡ mark inside c ∷ marks_from (inside_behind inside c) rest
unfolding marks_from
first_marked inside c rest = refl

none_marked : (inside : Inside) → marks_from inside [] ≡ []
unfolding marks_from
none_marked inside = refl

-- one character more
pub one_marked : (inside next : Inside) (place : Surrounding) (c i : ℕ) (text : List ℕ) (old new all : List Mark) → i < length text → c ≡ get_or text i c → place ≡ place_of inside → next ≡ inside_behind inside c →
    new ≡ old ++ record { place = place; c = c } ∷ [] →
    old ++ marks_from inside (drop i text) ≡ all → new ++ marks_from next (drop (i + 1) text) ≡ all
one_marked inside next place c i text old new all lt is ep en ew e =
    let cut : drop i text ≡ c ∷ drop (i + 1) text = drop_more text i c lt ∙ ap (λ d. d ∷ drop (i + 1) text) (sym is) in
    let here : marks_from inside (drop i text) ≡ mark inside c ∷ marks_from next (drop (i + 1) text) =
    ap (marks_from inside) cut ∙ first_marked inside c (drop (i + 1) text) ∙ ap (λ n. mark inside c ∷ marks_from n (drop (i + 1) text)) (sym en) in
    ap (λ x. x ++ marks_from next (drop (i + 1) text)) (ew ∙ ap (λ p. old ++ record { place = p; c = c } ∷ []) ep) ∙ append_assoc old (mark inside c ∷ []) (marks_from next (drop (i + 1) text)) ∙ ap (λ x. old ++ x) (sym here) ∙ e

-- no character is left
pub all_marked : (inside : Inside) (i : ℕ) (text : List ℕ) (old all : List Mark) → length text ≤ i → old ++ marks_from inside (drop i text) ≡ all → old ≡ all
all_marked inside i text old all le e =
    sym (append-nil old) ∙ ap (λ x. old ++ x) (sym (ap (marks_from inside) (drop_all i text le) ∙ none_marked inside)) ∙ e

-- what stands between two marks
pub between : (opens closes : Mark → Bool) (ms from behind inside : List Mark) (n k : ℕ) → n ≡ position_or_len opens ms → from ≡ drop n ms → behind ≡ drop 1 from → k ≡ position_or_len closes behind → inside ≡ take k behind →
    inside ≡ before_first closes (after_first opens ms)
between opens closes ms from behind inside n k en ef eb ek ei =
    let after : behind ≡ after_first opens ms = eb ∙ ap (drop 1) ef ∙ drop-drop 1 n ms ∙ ap (λ m. drop (m + 1) ms) en in
    ei ∙ ap (λ m. take m behind) ek ∙ ap (before_first closes) after
