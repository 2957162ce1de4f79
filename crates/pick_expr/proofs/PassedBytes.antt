-- Bytes that are passed.
use Rattle.std.proofs.Common.{◌≡◌, ℕ, zero, suc, ◌+◌, ◌<◌, ◌≤◌, ◌||◌, Bool, true, false, List, [], ◌∷◌, length, drop, get_or, refl, sym, ap, ◌∙◌, inl, inr, arith, subst, replicate, set, get_or-set_same, get_or-set_other}
use Rattle.std.proofs.lemmas.Bool.{cases_eq, false≢true}
use Rattle.std.proofs.lemmas.List.{drop_more}
use Rattle.pick_expr.specs.declared.element.Element.{Element}
use Rattle.pick_expr.specs.declared.places.Places.{Places}
use Rattle.pick_expr.specs.declared.resting.Resting.{Resting}
use Rattle.pick_expr.specs.Finishing.{AreFinishing, finishes, found_by}
use Rattle.pick_expr.specs.Resting.{AreIdle, IsResting, Passes}

once_more : (test : List ℕ → Bool) (line : List ℕ) → (test line || found_by test line) ≡ found_by test line
once_more test [] = elim (test []) as (λ v. (v || v) ≡ v) [ true ↦ refl | false ↦ refl ]
once_more test (b ∷ line) = elim (test (b ∷ line)) as (λ v. (v || (v || found_by test line)) ≡ (v || found_by test line)) [ true ↦ refl | false ↦ refl ]

-- a byte that changes nothing
idle_byte : (elements : List Element) (to_end : Bool) (places : Places) (byte : ℕ) (line : List ℕ)
    → (AreFinishing elements to_end line places → AreFinishing elements to_end (byte ∷ line) places) → Passes elements to_end places line (byte ∷ line)
idle_byte elements to_end places byte line stays ready =
    let test : List ℕ → Bool = finishes elements to_end in
    let same : test (byte ∷ line) ≡ test line = sym (stays ready 0 (omega arith)) ∙ ready 0 (omega arith) in
    (stays ready, ap (λ z. z || found_by test line) same ∙ once_more test line)

-- one byte more
pub passes_more : (elements : List Element) (to_end : Bool) (r : Resting) (all line : List ℕ) (at k byte : ℕ)
    → IsResting elements to_end r → Passes elements to_end r.rest all (drop at line)
    → at ≡ k + 1 → at ≤ length line → byte ≡ get_or line k 0 → get_or r.idle byte false ≡ true
    → Passes elements to_end r.rest all (drop k line)
passes_more elements to_end r all line at k byte resting now above inside there idle ready =
    let split : drop k line ≡ byte ∷ drop at line = drop_more line k 0 (omega arith) ∙ (λ i. sym there i ∷ drop (sym above i) line) in
    let passed = now ready in
    let more = idle_byte elements to_end r.rest byte (drop at line) (resting.idle byte idle (drop at line)) passed.0 in
    (rw split more.0, ap (found_by (finishes elements to_end)) split ∙ more.1 ∙ passed.1)

pub none_idle : (elements : List Element) (to_end : Bool) (places : Places) (n : ℕ) → AreIdle elements to_end places (replicate n false)
none_idle elements to_end places n byte marked = absurd (false≢true (sym (none_marked n byte) ∙ marked))
  where
    none_marked : (n k : ℕ) → get_or (replicate n false) k false ≡ false
    none_marked zero k = refl
    none_marked (suc n) zero = refl
    none_marked (suc n) (suc k) = none_marked n k

-- a byte that is marked if a step by it leads back
pub idle_more : (elements : List Element) (to_end : Bool) (places next : Places) (idle : List Bool) (byte : ℕ) (same : Bool)
    → AreIdle elements to_end places idle → byte < length idle
    → ((line : List ℕ) → AreFinishing elements to_end line places → AreFinishing elements to_end (byte ∷ line) next) → (same ≡ true → next ≡ places)
    → AreIdle elements to_end places (set idle byte same)
idle_more elements to_end places next idle byte same now inside steps back b marked line ready =
    elim (cases_eq b byte) [
      | inl e ↦ (let is_same : same ≡ true = sym (get_or-set_same idle byte same false inside) ∙ ap (λ z. get_or (set idle byte same) z false) (sym e) ∙ marked in
          let here : AreFinishing elements to_end (byte ∷ line) places = subst (λ (z : Places). AreFinishing elements to_end (byte ∷ line) z) (back is_same) (steps line ready) in
          subst (λ (z : ℕ). AreFinishing elements to_end (z ∷ line) places) (sym e) here)
      | inr ne ↦ now b (sym (get_or-set_other idle byte b same false ne) ∙ marked) line ready
    ]
