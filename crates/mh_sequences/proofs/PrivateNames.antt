-- Entries and the names of private sequences.
use Rattle.std.proofs.Common.{◌≡◌, ℕ, zero, suc, ◌-◌, Bool, true, false, Some, None, List, [], ◌∷◌, ◌++◌, length, map, take, drop, refl, sym, ◌∙◌, ap, subst, arith, length-append}
use Rattle.std.specs.Prelude.{bytes_eq, slice_get, ◌&&◌, not, codes, if◌then◌else◌}
use Rattle.std.proofs.lemmas.Bool.{or_left, or_parts, both_ways}
use Rattle.std.proofs.lemmas.List.{take-append-drop, take_at, drop_at}
use Rattle.mh_profile.specs.declared.named_value.NamedValue.{NamedValue}
use Rattle.mh_profile.specs.Names.{same_entry, is_attribute}
use Rattle.mail_headers.specs.Fields.{same_name}
use Rattle.mh_profile.specs.Validity.{AreEntries, has_name}
use Rattle.mh_profile.specs.Changes.{value_of}
use Rattle.mh_profile.proofs.Keys.{same_sym}
use Rattle.mh_sequences.specs.Reading.{attribute}
use Rattle.mh_sequences.proofs.Bools.{same_test}
use Rattle.mh_sequences.proofs.NamePlaces.{same_is, same_self}

same_entry_self : (a : List ℕ) → same_entry a a ≡ true
unfolding same_entry
same_entry_self a = or_left (bytes_eq a a) (not (is_attribute a) && not (is_attribute a) && same_name a a) (same_self a)

apart : (name : List ℕ) (es : List NamedValue) (i : ℕ) (e : NamedValue) → has_name name es ≡ false → slice_get es i ≡ Some e → same_entry name e.name ≡ false
apart name [] i e never at = cc
apart name (x ∷ xs) zero e never at = let same : x ≡ e = cc in ap (λ y. same_entry name y.name) (sym same) ∙ (or_parts (same_entry name x.name) (has_name name xs) never).0
apart name (x ∷ xs) (suc i) e never at = apart name xs i e (or_parts (same_entry name x.name) (has_name name xs) never).1 at

-- an entry has the value of its name
pub value_there : (es : List NamedValue) → AreEntries es → (i : ℕ) (e : NamedValue) → slice_get es i ≡ Some e → value_of e.name es ≡ Some e.value
value_there [] h i e at = cc
value_there (x ∷ xs) h zero e at =
    let same : x ≡ e = cc in
    subst (λ y. value_of y.name (x ∷ xs) ≡ Some y.value) same (ap (λ b. if b then Some x.value else value_of x.name xs) (same_entry_self x.name))
value_there (x ∷ xs) h (suc i) e at =
    let other : same_entry e.name x.name ≡ false = same_sym e.name x.name ∙ apart x.name xs i e h.1 at in
    ap (λ b. if b then Some x.value else value_of e.name xs) other ∙ value_there xs h.2 i e at

-- where there is a name there is an entry
pub entry_there : (es : List NamedValue) (i : ℕ) (name : List ℕ) → slice_get (map (λ (e : NamedValue). e.name) es) i ≡ Some name → (value : List ℕ) × (slice_get es i ≡ Some (record { name = name; value = value }))
entry_there [] i name at = cc
entry_there (x ∷ xs) zero name at = let same : x.name ≡ name = cc in (x.value, ap (λ n. Some (record { name = n; value = x.value })) same)
entry_there (x ∷ xs) (suc i) name at = entry_there xs i name at

pub entry_with : (es : List NamedValue) → AreEntries es → (i : ℕ) (name value : List ℕ) → slice_get (map (λ (e : NamedValue). e.name) es) i ≡ Some name → value_of name es ≡ Some value → slice_get es i ≡ Some (record { name = name; value = value })
entry_with es h i name value at found =
    let there = entry_there es i name at in
    let same : Some there.0 ≡ Some value = sym (value_there es h i (record { name = name; value = there.0 }) there.1) ∙ found in
    let is : there.0 ≡ value = cc in
    there.1 ∙ ap (λ v. Some (record { name = name; value = v })) is

pub entry_without : (es : List NamedValue) → AreEntries es → (i : ℕ) (name : List ℕ) → slice_get (map (λ (e : NamedValue). e.name) es) i ≡ Some name → value_of name es ≡ None → ⊥
entry_without es h i name at lost =
    let there = entry_there es i name at in
    let same : Some there.0 ≡ None = sym (value_there es h i (record { name = name; value = there.0 }) there.1) ∙ lost in cc

front_same : (p x y : List ℕ) → p ++ x ≡ p ++ y → x ≡ y
front_same [] x y e = e
front_same (c ∷ cs) x y e = front_same cs x y (cc)

end_same : (x y s : List ℕ) → x ++ s ≡ y ++ s → x ≡ y
end_same x y s e =
    let n = ap length e in
    let a = length-append x s in
    let b = length-append y s in
    let same : length x ≡ length y = omega arith in
    sym (take_at x s (length x) refl) ∙ ap (take (length x)) e ∙ ap (λ k. take k (y ++ s)) same ∙ take_at y s (length y) refl

-- a name with this front and this ending
pub name_between : (name ending rest x : List ℕ) → name ≡ codes "atr-" ++ rest → rest ≡ x ++ ending → (s : List ℕ) → bytes_eq name (attribute ending s) ≡ bytes_eq x s
name_between name ending rest x is at s =
    same_test (bytes_eq name (attribute ending s)) (bytes_eq x s)
    (λ h. let whole : codes "atr-" ++ (x ++ ending) ≡ codes "atr-" ++ (s ++ ending) = ap (λ r. codes "atr-" ++ r) (sym at) ∙ sym is ∙ same_is name (attribute ending s) h in
    ap (bytes_eq x) (sym (end_same x s ending (front_same (codes "atr-") (x ++ ending) (s ++ ending) whole))) ∙ same_self x)
    (λ h. let e : x ≡ s = same_is x s h in ap (λ n. bytes_eq n (attribute ending s)) (is ∙ ap (λ r. codes "atr-" ++ r) at ∙ ap (attribute ending) e) ∙ same_self (attribute ending s))

differs : (a b : List ℕ) → (a ≡ b → ⊥) → bytes_eq a b ≡ false
differs a b never = by (bytes_eq a b) (λ h. never (same_is a b h))
  where
    by : (t : Bool) → (t ≡ true → ⊥) → t ≡ false
    by true never = absurd (never refl)
    by false never = refl

-- or without it
pub other_front : (name ending : List ℕ) → bytes_eq (take 4 name) (codes "atr-") ≡ false → (s : List ℕ) → bytes_eq name (attribute ending s) ≡ false
other_front name ending off s = differs name (attribute ending s) (λ e. both_ways (bytes_eq (take 4 name) (codes "atr-")) off (ap (λ n. bytes_eq (take 4 n) (codes "atr-")) e ∙ same_self (codes "atr-")))

pub other_end : (name ending rest : List ℕ) → name ≡ codes "atr-" ++ rest → bytes_eq (drop (length rest - length ending) rest) ending ≡ false → (s : List ℕ) → bytes_eq name (attribute ending s) ≡ false
other_end name ending rest is off s = differs name (attribute ending s) (λ e.
    let same : rest ≡ s ++ ending = front_same (codes "atr-") rest (s ++ ending) (sym is ∙ e) in
    let n = length-append s ending in
    let k : length (s ++ ending) - length ending ≡ length s = omega arith in
    both_ways (bytes_eq (drop (length rest - length ending) rest) ending) off
    (ap (λ r. bytes_eq (drop (length r - length ending) r) ending) same ∙ ap (λ j. bytes_eq (drop j (s ++ ending)) ending) k ∙ ap (λ l. bytes_eq l ending) (drop_at s ending (length s) refl) ∙ same_self ending))

pub front_is : (name pre rest : List ℕ) → bytes_eq (take (length pre) name) pre ≡ true → rest ≡ drop (length pre) name → name ≡ pre ++ rest
front_is name pre rest e is = sym (take-append-drop (length pre) name) ∙ (λ i. same_is (take (length pre) name) pre e i ++ sym is i)

pub end_is : (rest inner ending : List ℕ) → bytes_eq (drop (length rest - length ending) rest) ending ≡ true → inner ≡ take (length rest - length ending) rest → rest ≡ inner ++ ending
end_is rest inner ending e is = sym (take-append-drop (length rest - length ending) rest) ∙ (λ i. sym is i ++ same_is (drop (length rest - length ending) rest) ending e i)
