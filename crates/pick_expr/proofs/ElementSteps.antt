-- The elements of a pattern, one after another.
use Rattle.std.proofs.Common.{◌≡◌, ℕ, zero, suc, ◌+◌, ◌-◌, ◌<◌, ◌≤◌, ◌==◌, ◌&&◌, true, false, List, [], ◌∷◌, ◌++◌, Option, Some, None, length, drop, get_or, refl, sym, ap, ◌∙◌, arith, append_assoc, append-nil, length-drop, subst}
use Rattle.std.proofs.lemmas.List.{drop_more, drop_all, drop-drop, length_push}
use Rattle.pick_expr.specs.declared.element.Element.{Element}
use Rattle.pick_expr.specs.declared.elements.ReadElement.{ReadElement}
use Rattle.pick_expr.specs.Taking.{IsElementOf}
use Rattle.pick_expr.specs.Reading.{Elements, ElementText, element_in, elements_in, is_last, with_element, with_next}

-- these elements before those
abbrev pub joined : List Element → Option Elements → Option Elements
joined front None = None
joined front (Some es) = Some (record { elements = front ++ es.elements; to_end = es.to_end })

joined_more : (front : List Element) (e : Element) (es : Option Elements) → joined front (with_element e es) ≡ joined (front ++ e ∷ []) es
joined_more front e None = refl
joined_more front e (Some es) = ap (λ z. Some (record { elements = z; to_end = es.to_end })) (sym (append_assoc front (e ∷ []) es.elements))

joined_none : (es : Option Elements) → joined [] es ≡ es
joined_none None = refl
joined_none (Some es) = refl

nothing_left : (n : ℕ) → elements_in n [] ≡ Some (record { elements = []; to_end = false })
unfolding elements_in
nothing_left zero = refl
nothing_left (suc n) = refl

dollar_left : (n b : ℕ) (bytes : List ℕ) → (b == 36 && is_last bytes) ≡ true → elements_in n (b ∷ bytes) ≡ Some (record { elements = []; to_end = true })
unfolding elements_in
dollar_left zero b bytes h = rw h refl
dollar_left (suc n) b bytes h = rw h refl

none_left : (b : ℕ) (bytes : List ℕ) → (b == 36 && is_last bytes) ≡ false → elements_in 0 (b ∷ bytes) ≡ None
unfolding elements_in
none_left b bytes h = rw h refl

element_left : (n b : ℕ) (bytes : List ℕ) → (b == 36 && is_last bytes) ≡ false → elements_in (suc n) (b ∷ bytes) ≡ with_next (elements_in n) (element_in b bytes)
unfolding elements_in
element_left n b bytes h = rw h refl

-- whatever completes the rest completes the whole
pub record AreRead (most : ℕ) (text : List ℕ) (at : ℕ) (front : List Element) : Type 0 where
  pub inside : at ≤ length text
  pub few : length front ≤ most
  pub rest : elements_in most text ≡ joined front (elements_in (most - length front) (drop at text))

pub first_read : (most : ℕ) (text : List ℕ) → AreRead most text 0 []
first_read most text = record { inside = omega arith; few = omega arith; rest = (λ i. elements_in (omega_zero i) text) ∙ sym (joined_none (elements_in (most - 0) text)) }
  where
    omega_zero : most ≡ most - 0
    omega_zero = omega arith

pub more_read : (most : ℕ) (text : List ℕ) (at b : ℕ) (behind : List ℕ) (front new : List Element) (e : Element) (len next : ℕ) → AreRead most text at front → at < length text → b ≡ get_or text at 0
    → behind ≡ drop (at + 1) text → (b == 36 && is_last behind) ≡ false → length front < most
    → element_in b behind ≡ Some (record { element = e; behind = drop len behind }) → len ≤ length behind → new ≡ front ++ e ∷ [] → next ≡ at + (1 + len) → AreRead most text next new
more_read most text at b behind front new e len next now within is_b is_behind more room is_e is_len is_new is_next =
    let split : drop at text ≡ b ∷ behind = drop_more text at 0 within ∙ (λ i. sym is_b i ∷ sym is_behind i) in
    let fits : len ≤ length (drop (at + 1) text) = rw (← is_behind) is_len in
    let longer : length new ≡ length front + 1 = ap length is_new ∙ length_push front e in
    let left : drop len behind ≡ drop next text = ap (drop len) is_behind ∙ drop-drop len (at + 1) text ∙ ap (λ z. drop z text) (omega arith) in
    let count : most - length front ≡ suc (most - length new) = omega arith in
    record {
      inside = omega (arith, length-drop (at + 1) text);
      few = omega arith;
      rest = now.rest
          ∙ (λ i. joined front (elements_in (count i) (split i)))
          ∙ ap (joined front) (element_left (most - length new) b behind more ∙ ap (with_next (elements_in (most - length new))) is_e)
          ∙ joined_more front e (elements_in (most - length new) (drop len behind))
          ∙ (λ i. joined (sym is_new i) (elements_in (most - length new) (left i)));
    }

pub ended : (most : ℕ) (text : List ℕ) (at : ℕ) (front : List Element) → AreRead most text at front → length text ≤ at → elements_in most text ≡ Some (record { elements = front; to_end = false })
ended most text at front now over =
    now.rest ∙ ap (λ z. joined front (elements_in (most - length front) z)) (drop_all at text over) ∙ ap (joined front) (nothing_left (most - length front))
    ∙ ap (λ z. Some (record { elements = z; to_end = false })) (append-nil front)

split_at : (text : List ℕ) (at b : ℕ) (behind : List ℕ) → at < length text → b ≡ get_or text at 0 → behind ≡ drop (at + 1) text → drop at text ≡ b ∷ behind
split_at text at b behind within is_b is_behind = drop_more text at 0 within ∙ (λ i. sym is_b i ∷ sym is_behind i)

pub anchored : (most : ℕ) (text : List ℕ) (at b : ℕ) (behind : List ℕ) (front : List Element) → AreRead most text at front → at < length text → b ≡ get_or text at 0 → behind ≡ drop (at + 1) text
    → (b == 36 && is_last behind) ≡ true → elements_in most text ≡ Some (record { elements = front; to_end = true })
anchored most text at b behind front now within is_b is_behind h =
    now.rest ∙ ap (λ z. joined front (elements_in (most - length front) z)) (split_at text at b behind within is_b is_behind)
    ∙ ap (joined front) (dollar_left (most - length front) b behind h)
    ∙ ap (λ z. Some (record { elements = z; to_end = true })) (append-nil front)

pub too_many : (most : ℕ) (text : List ℕ) (at b : ℕ) (behind : List ℕ) (front : List Element) → AreRead most text at front → at < length text → b ≡ get_or text at 0 → behind ≡ drop (at + 1) text
    → (b == 36 && is_last behind) ≡ false → length front ≡ most → elements_in most text ≡ None
too_many most text at b behind front now within is_b is_behind h full =
    let none : most - length front ≡ 0 = omega arith in
    now.rest ∙ (λ i. joined front (elements_in (none i) (split_at text at b behind within is_b is_behind i))) ∙ ap (joined front) (none_left b behind h)

pub wrong : (most : ℕ) (text : List ℕ) (at b : ℕ) (behind : List ℕ) (front : List Element) → AreRead most text at front → at < length text → b ≡ get_or text at 0 → behind ≡ drop (at + 1) text
    → (b == 36 && is_last behind) ≡ false → length front < most → element_in b behind ≡ None → elements_in most text ≡ None
wrong most text at b behind front now within is_b is_behind h room bad =
    let count : most - length front ≡ suc (most - length front - 1) = omega arith in
    now.rest ∙ (λ i. joined front (elements_in (count i) (split_at text at b behind within is_b is_behind i)))
    ∙ ap (joined front) (element_left (most - length front - 1) b behind h ∙ ap (with_next (elements_in (most - length front - 1))) bad)

pub one_taken : (there : Option ElementText) (text : List ℕ) (found : Option ReadElement) (e : ReadElement) → found ≡ Some e → IsElementOf there text found → IsElementOf there text (Some e)
one_taken there text found e is h = subst (λ z. IsElementOf there text z) is h

pub none_taken : (there : Option ElementText) (text : List ℕ) (found : Option ReadElement) → found ≡ None → IsElementOf there text found → there ≡ None
none_taken there text found is h = subst (λ z. IsElementOf there text z) is h
