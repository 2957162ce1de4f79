-- Steps by one set of places for each byte.
use Rattle.std.proofs.Common.{◌≡◌, ℕ, ◌+◌, ◌<◌, ◌≤◌, ◌==◌, ◌&&◌, ◌||◌, Bool, true, false, not, List, [], ◌∷◌, ◌++◌, length, drop, get_or, refl, sym, ap, ◌∙◌, inl, inr, arith, subst, eq-eqb}
use Rattle.std.proofs.lemmas.Bool.{cases_eq, cases_lt, ne_eqb}
use Rattle.std.proofs.lemmas.List.{drop_more, drop_all, get_or_append_left, get_or_push, length-append}
use Rattle.pick_expr.specs.declared.atom.Atom.{Atom}
use Rattle.pick_expr.specs.declared.element.Element.{Element}
use Rattle.pick_expr.specs.declared.element.Element.TheVariants.{Once}
use Rattle.pick_expr.specs.declared.places.Places.{Places}
use Rattle.pick_expr.specs.Atoms.{admits}
use Rattle.pick_expr.specs.Finishing.{AreFinishing, finishes}
use Rattle.pick_expr.specs.Masks.{AreMasks, IsMask}
use Rattle.pick_expr.specs.Places.{has_place}

-- the mask from this place on
pub record IsMaskFrom (elements : List Element) (byte at : ℕ) (mask : Places) : Type 0 where
  pub within : at ≤ length elements
  pub before : (i : ℕ) → i < at → has_place mask i ≡ false
  pub inside : (i : ℕ) → length elements ≤ i → has_place mask i ≡ false
  pub steps : (to_end : Bool) (line : List ℕ) (i : ℕ) → at ≤ i → i < length elements
      → finishes (drop i elements) to_end (byte ∷ line) ≡ (has_place mask i && finishes (drop (i + 1) elements) to_end line)

or_false : (t : Bool) → (t || false) ≡ t
or_false true = refl
or_false false = refl

pub mask_first : (elements : List Element) (byte : ℕ) (mask : Places) → ((i : ℕ) → has_place mask i ≡ false) → IsMaskFrom elements byte (length elements) mask
mask_first elements byte mask none = record {
  within = omega arith;
  before = (λ i _. none i);
  inside = (λ i _. none i);
  steps = (λ to_end line i from to. absurd (omega arith));
}

pub mask_more : (elements : List Element) (byte at k : ℕ) (element : Element) (atom : Atom) (mask new : Places) (flag : Bool)
    → IsMaskFrom elements byte at mask → at ≡ k + 1 → element ≡ get_or elements k element → element ≡ Once atom
    → ((i : ℕ) → has_place new i ≡ ((i == k && flag) || has_place mask i)) → flag ≡ admits atom byte
    → IsMaskFrom elements byte k new
mask_more elements byte at k element atom mask new flag now above there is_once is_new is_flag =
    let within = now.within in
    record {
      within = omega arith;
      before = (λ i low. let miss : (i == k) ≡ false = ne_eqb i k (λ e. absurd (omega arith)) in is_new i ∙ rw (miss, now.before i (omega arith)) refl);
      inside = (λ i past. let miss : (i == k) ≡ false = ne_eqb i k (λ e. absurd (omega arith)) in is_new i ∙ rw (miss, now.inside i past) refl);
      steps = (λ to_end line i from to. elim (cases_eq i k) [
        | inl e ↦ (let hit : (i == k) ≡ true = eq-eqb i k e in
            let has : has_place new i ≡ admits atom byte = is_new i ∙ rw (hit, now.before i (omega arith)) (or_false flag) ∙ is_flag in
            let split : drop i elements ≡ Once atom ∷ drop (i + 1) elements = ap (λ z. drop z elements) e ∙ drop_more elements k element (omega arith)
            ∙ (λ j. (sym there ∙ is_once) j ∷ drop (sym e j + 1) elements) in
            ap (λ z. finishes z to_end (byte ∷ line)) split ∙ ap (λ z. z && finishes (drop (i + 1) elements) to_end line) (sym has))
        | inr ne ↦ (let miss : (i == k) ≡ false = ne_eqb i k ne in
            let has : has_place new i ≡ has_place mask i = is_new i ∙ rw miss refl in
            now.steps to_end line i (omega arith) to ∙ ap (λ z. z && finishes (drop (i + 1) elements) to_end line) (sym has))
      ]);
    }

pub mask_all : (elements : List Element) (byte at : ℕ) (mask : Places) → IsMaskFrom elements byte at mask → at ≤ 0 → IsMask elements byte mask
mask_all elements byte at mask now all = record { inside = now.inside; steps = (λ to_end line i to. now.steps to_end line i (omega arith) to) }

pub no_masks : (elements : List Element) → AreMasks elements []
no_masks elements byte mask inside there = absurd (omega arith)

pub masks_more : (elements : List Element) (masks : List Places) (mask : Places) (n : ℕ) → AreMasks elements masks → length masks ≡ n
    → IsMask elements n mask → AreMasks elements (masks ++ mask ∷ [])
masks_more elements masks mask n now len is byte m inside there =
    elim (cases_lt byte n) [
      | inl before ↦ now byte m (omega arith) (there ∙ get_or_append_left masks (mask ∷ []) m byte (omega arith))
      | inr from ↦ (let last : byte ≡ n = omega (arith, length-append masks (mask ∷ [])) in
          let same : m ≡ mask = there ∙ get_or_push masks mask m byte (len ∙ sym last) in
          subst (λ (z : ℕ). IsMask elements z m) (sym last) (subst (λ (z : Places). IsMask elements n z) (sym same) is))
    ]

pub step_masked : (elements : List Element) (to_end : Bool) (byte : ℕ) (old mask end new : Places) → IsMask elements byte mask
    → ((i : ℕ) → has_place end i ≡ (i == length elements && not to_end))
    → ((i : ℕ) → has_place new i ≡ ((has_place old (i + 1) && has_place mask i) || has_place end i))
    → (line : List ℕ) → AreFinishing elements to_end line old → AreFinishing elements to_end (byte ∷ line) new
step_masked elements to_end byte old mask end new is is_end is_new line ready i to =
    elim (cases_lt i (length elements)) [
      | inl less ↦ (let miss : (i == length elements) ≡ false = ne_eqb i (length elements) (λ e. absurd (omega arith)) in
          let none : has_place end i ≡ false = is_end i ∙ ap (λ z. z && not to_end) miss in
          is_new i ∙ ap (λ z. (has_place old (i + 1) && has_place mask i) || z) none ∙ or_false (has_place old (i + 1) && has_place mask i)
          ∙ and_swap (has_place old (i + 1)) (has_place mask i) ∙ ap (λ z. has_place mask i && z) (ready (i + 1) (omega arith)) ∙ sym (is.steps to_end line i less))
      | inr all ↦ (let hit : (i == length elements) ≡ true = eq-eqb i (length elements) (omega arith) in
          let there : has_place end i ≡ not to_end = is_end i ∙ ap (λ z. z && not to_end) hit in
          is_new i ∙ (λ j. (has_place old (i + 1) && is.inside i all j) || there j) ∙ nothing (has_place old (i + 1)) (not to_end)
          ∙ ap (λ z. finishes z to_end (byte ∷ line)) (sym (drop_all i elements all)))
    ]
  where
    and_swap : (a b : Bool) → (a && b) ≡ (b && a)
    and_swap true true = refl
    and_swap true false = refl
    and_swap false true = refl
    and_swap false false = refl

    nothing : (a b : Bool) → ((a && false) || b) ≡ b
    nothing true b = refl
    nothing false b = refl
