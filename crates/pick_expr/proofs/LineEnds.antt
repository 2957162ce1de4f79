-- Places from a line's end on.
use Rattle.std.proofs.Common.{◌≡◌, ℕ, zero, suc, ◌+◌, ◌-◌, ◌<◌, ◌≤◌, ◌==◌, ◌&&◌, ◌||◌, Bool, true, false, List, [], ◌∷◌, length, drop, get_or, refl, sym, ap, ◌∙◌, inl, inr, arith, eq-eqb}
use Rattle.std.proofs.lemmas.Bool.{cases_eq, cases_lt, ne_eqb, or_right}
use Rattle.std.proofs.lemmas.List.{drop_more, drop_all}
use Rattle.pick_expr.specs.declared.element.Element.{Element}
use Rattle.pick_expr.specs.declared.element.Element.TheVariants.{Once, AnyNumber}
use Rattle.pick_expr.specs.declared.atom.Atom.TheVariants.{Any}
use Rattle.pick_expr.specs.declared.places.Places.{Places}
use Rattle.pick_expr.specs.Atoms.{admits}
use Rattle.pick_expr.specs.Finishing.{finishes, found_by, goes_on, AreFinishing}
use Rattle.pick_expr.specs.Places.{has_place}
use Rattle.pick_expr.specs.Resting.{Passes}

-- the places from this one on are right, and none before it is set
pub record IsLast (elements : List Element) (at : ℕ) (places : Places) : Type 0 where
  pub inside : at ≤ length elements
  pub before : (i : ℕ) → i < at → has_place places i ≡ false
  pub behind : (to_end : Bool) (i : ℕ) → at ≤ i → i ≤ length elements → has_place places i ≡ finishes (drop i elements) to_end []

pub record IsNext (elements : List Element) (to_end : Bool) (byte : ℕ) (old : Places) (at : ℕ) (places : Places) : Type 0 where
  pub inside : at ≤ length elements
  pub before : (i : ℕ) → i < at → has_place places i ≡ false
  pub behind : (line : List ℕ) → AreFinishing elements to_end line old → (i : ℕ) → at ≤ i → i ≤ length elements → has_place places i ≡ finishes (drop i elements) to_end (byte ∷ line)

element_on : (element : Element) (rest : List Element) (to_end : Bool) (byte : ℕ) (line : List ℕ) (here behind behind_now : Bool)
    → here ≡ finishes (element ∷ rest) to_end line → behind ≡ finishes rest to_end line → behind_now ≡ finishes rest to_end (byte ∷ line)
    → goes_on element byte here behind behind_now ≡ finishes (element ∷ rest) to_end (byte ∷ line)
element_on (Once a) rest to_end byte line here behind behind_now p q r = ap (λ z. admits a byte && z) q
element_on (AnyNumber a) rest to_end byte line here behind behind_now p q r = (λ i. r i || (admits a byte && p i))

or_false : (t : Bool) → (t || false) ≡ t
or_false true = refl
or_false false = refl

-- one place more, by one byte more
pub next_more : (elements : List Element) (to_end : Bool) (byte : ℕ) (old : Places) (at k : ℕ) (element : Element) (next new : Places) (flag : Bool)
    → IsNext elements to_end byte old at next → at ≡ k + 1 → element ≡ get_or elements k element
    → ((i : ℕ) → has_place new i ≡ ((i == k && flag) || has_place next i))
    → flag ≡ goes_on element byte (has_place old k) (has_place old at) (has_place next at)
    → IsNext elements to_end byte old k new
next_more elements to_end byte old at k element next new flag now above there is_new is_flag = record {
  inside = (let inside = now.inside in omega arith);
  before = (λ i low. let miss : (i == k) ≡ false = ne_eqb i k (λ e. absurd (omega arith)) in is_new i ∙ rw (miss, now.before i (omega arith)) refl);
  behind = (λ line ready i from to. elim (cases_eq i k) [
    | inl e ↦ (let inside = now.inside in
        let hit : (i == k) ≡ true = eq-eqb i k e in
        let split : drop i elements ≡ element ∷ drop (k + 1) elements = ap (λ z. drop z elements) e ∙ drop_more elements k element (omega arith) ∙ ap (λ z. z ∷ drop (k + 1) elements) (sym there) in
        let split_k : drop k elements ≡ element ∷ drop (k + 1) elements = ap (λ z. drop z elements) (sym e) ∙ split in
        let split_at : drop at elements ≡ drop (k + 1) elements = ap (λ z. drop z elements) above in
        let on = element_on element (drop (k + 1) elements) to_end byte line (has_place old k) (has_place old at) (has_place next at)
        (ready k (omega arith) ∙ ap (λ z. finishes z to_end line) split_k)
        (ready at inside ∙ ap (λ z. finishes z to_end line) split_at)
        (now.behind line ready at (omega arith) inside ∙ ap (λ z. finishes z to_end (byte ∷ line)) split_at) in
        is_new i ∙ rw (hit, now.before i (omega arith)) (or_false flag) ∙ is_flag ∙ on ∙ ap (λ z. finishes z to_end (byte ∷ line)) (sym split))
    | inr ne ↦ (let miss : (i == k) ≡ false = ne_eqb i k ne in is_new i ∙ rw miss refl ∙ now.behind line ready i (omega arith) to)
  ]);
}

-- the places one byte before, and the flags that are carried from place to place
pub record IsStepped (elements : List Element) (to_end : Bool) (byte : ℕ) (old : Places) (at : ℕ) (next : Places) (behind behind_now : Bool) : Type 0 where
  pub places : IsNext elements to_end byte old at next
  pub here : behind ≡ has_place old at
  pub here_now : behind_now ≡ has_place next at

pub stepped_more : (elements : List Element) (to_end : Bool) (byte : ℕ) (old : Places) (at k : ℕ) (element : Element) (next new : Places) (here behind behind_now flag : Bool)
    → IsStepped elements to_end byte old at next behind behind_now → at ≡ k + 1 → element ≡ get_or elements k element
    → ((i : ℕ) → has_place new i ≡ ((i == k && flag) || has_place next i))
    → here ≡ has_place old k → flag ≡ goes_on element byte here behind behind_now
    → IsStepped elements to_end byte old k new here flag
stepped_more elements to_end byte old at k element next new here behind behind_now flag now above there is_new is_here is_flag = record {
  places = next_more elements to_end byte old at k element next new flag now.places above there is_new (is_flag ∙ (λ i. goes_on element byte (is_here i) (now.here i) (now.here_now i)));
  here = is_here;
  here_now = (let hit : (k == k) ≡ true = eq-eqb k k refl in sym (is_new k ∙ rw (hit, now.places.before k (omega arith)) (or_false flag)));
}

nothing_on : (element : Element) (byte : ℕ) → goes_on element byte false false false ≡ false
nothing_on (Once a) byte = elim (admits a byte) as (λ v. (v && false) ≡ false) [ true ↦ refl | false ↦ refl ]
nothing_on (AnyNumber a) byte = elim (admits a byte) as (λ v. (false || (v && false)) ≡ false) [ true ↦ refl | false ↦ refl ]

-- no place is set one byte before where none was set up to the next one, which isn't set there either
none_before : (elements : List Element) (to_end : Bool) (byte : ℕ) (line : List ℕ) (old : Places) (at : ℕ) → at ≤ length elements
    → AreFinishing elements to_end line old → ((i : ℕ) → i ≤ at → has_place old i ≡ false) → finishes (drop at elements) to_end (byte ∷ line) ≡ false
    → (k i : ℕ) → i + k ≡ at → finishes (drop i elements) to_end (byte ∷ line) ≡ false
none_before elements to_end byte line old at inside ready none at_none zero i e = ap (λ z. finishes (drop z elements) to_end (byte ∷ line)) (omega arith) ∙ at_none
none_before elements to_end byte line old at inside ready none at_none (suc k) i e =
    let element : Element = get_or elements i (Once Any) in
    let split : drop i elements ≡ element ∷ drop (i + 1) elements = drop_more elements i (Once Any) (omega arith) in
    let on = element_on element (drop (i + 1) elements) to_end byte line false false false
    (sym (none i (omega arith)) ∙ ready i (omega arith) ∙ ap (λ z. finishes z to_end line) split)
    (sym (none (i + 1) (omega arith)) ∙ ready (i + 1) (omega arith))
    (sym (none_before elements to_end byte line old at inside ready none at_none k (i + 1) (omega arith))) in
    ap (λ z. finishes z to_end (byte ∷ line)) split ∙ sym on ∙ nothing_on element byte

-- so the places that are left needn't be looked at
pub stepped_all : (elements : List Element) (to_end : Bool) (byte : ℕ) (old : Places) (at least : ℕ) (next : Places) (behind behind_now : Bool)
    → IsStepped elements to_end byte old at next behind behind_now → ((i : ℕ) → i < least → has_place old i ≡ false) → at < least → behind_now ≡ false
    → (line : List ℕ) → AreFinishing elements to_end line old → AreFinishing elements to_end (byte ∷ line) next
stepped_all elements to_end byte old at least next behind behind_now now none low off line ready i to =
    let inside : at ≤ length elements = now.places.inside in
    let at_none : finishes (drop at elements) to_end (byte ∷ line) ≡ false = sym (now.places.behind line ready at (omega arith) inside) ∙ sym now.here_now ∙ off in
    elim (cases_lt i at) [
      | inl before ↦ now.places.before i before ∙ sym (none_before elements to_end byte line old at inside ready (λ j h. none j (omega arith)) at_none (at - i) i (omega arith))
      | inr from ↦ now.places.behind line ready i from to
    ]

pub record IsFound (elements : List Element) (to_end : Bool) (line : List ℕ) (at : ℕ) (places : Places) (found : Bool) : Type 0 where
  pub inside : at ≤ length line
  pub ready : AreFinishing elements to_end (drop at line) places
  pub answer : found ≡ found_by (finishes elements to_end) (drop at line)

pub found_first : (elements : List Element) (to_end : Bool) (line : List ℕ) (places : Places) (found : Bool)
    → AreFinishing elements to_end [] places → found ≡ has_place places 0 → IsFound elements to_end line (length line) places found
found_first elements to_end line places found last is_found =
    let none : drop (length line) line ≡ [] = drop_all (length line) line (omega arith) in
    record {
      inside = omega arith;
      ready = rw none last;
      answer = rw none (is_found ∙ last 0 (omega arith));
    }

pub found_more : (elements : List Element) (to_end : Bool) (line : List ℕ) (at k : ℕ) (byte : ℕ) (old new : Places) (here : Bool)
    → IsFound elements to_end line at old false → at ≡ k + 1 → byte ≡ get_or line k 0
    → ((rest : List ℕ) → AreFinishing elements to_end rest old → AreFinishing elements to_end (byte ∷ rest) new)
    → here ≡ has_place new 0
    → IsFound elements to_end line k new here
found_more elements to_end line at k byte old new here now above there steps is_here =
    let inside = now.inside in
    let split : drop k line ≡ byte ∷ drop at line = drop_more line k 0 (omega arith) ∙ (λ i. sym there i ∷ drop (sym above i) line) in
    let ready : AreFinishing elements to_end (byte ∷ drop at line) new = steps (drop at line) now.ready in
    record {
      inside = omega arith;
      ready = rw split ready;
      answer = rw split (sym (or_false here) ∙ (λ i. (is_here ∙ ready 0 (omega arith)) i || now.answer i));
    }

pub started_first : (elements : List Element) (to_end : Bool) (line : List ℕ) (places : Places) → AreFinishing elements to_end [] places
    → AreFinishing elements to_end (drop (length line) line) places
started_first elements to_end line places last =
    let none : drop (length line) line ≡ [] = drop_all (length line) line (omega arith) in
    rw none last

pub started_more : (elements : List Element) (to_end : Bool) (line : List ℕ) (at k : ℕ) (byte : ℕ) (old new : Places)
    → AreFinishing elements to_end (drop at line) old → at ≤ length line → at ≡ k + 1 → byte ≡ get_or line k 0
    → ((rest : List ℕ) → AreFinishing elements to_end rest old → AreFinishing elements to_end (byte ∷ rest) new)
    → AreFinishing elements to_end (drop k line) new
started_more elements to_end line at k byte old new now inside above there steps =
    let split : drop k line ≡ byte ∷ drop at line = drop_more line k 0 (omega arith) ∙ (λ i. sym there i ∷ drop (sym above i) line) in
    rw split (steps (drop at line) now)

-- bytes that are passed
pub found_passed : (elements : List Element) (to_end : Bool) (line : List ℕ) (at k : ℕ) (places : Places) (found : Bool)
    → IsFound elements to_end line at places found → k ≤ at → Passes elements to_end places (drop at line) (drop k line)
    → IsFound elements to_end line k places found
found_passed elements to_end line at k places found now to passes =
    let inside = now.inside in
    let passed = passes now.ready in
    record { inside = omega arith; ready = passed.0; answer = now.answer ∙ sym passed.1 }

-- what is found in an end of the line is found in the line
pub found_on : (test : List ℕ → Bool) (line : List ℕ) (k : ℕ) → true ≡ found_by test (drop k line) → true ≡ found_by test line
found_on test line zero h = h
found_on test [] (suc k) h = h
found_on test (b ∷ line) (suc k) h = sym (or_right (test (b ∷ line)) (found_by test line) (sym (found_on test line k h)))
