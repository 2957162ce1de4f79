-- Lists of entries that are alike.
use Rattle.std.proofs.Common.{◌≡◌, ℕ, suc, ◌+◌, ◌<◌, ◌≤◌, Bool, true, false, List, [], ◌∷◌, length, drop, get_or, refl, sym, ◌∙◌, ap, arith, add-one, drop-cons}
use Rattle.std.specs.Prelude.{◌&&◌, bytes_eq}
use Rattle.std.proofs.lemmas.Bool.{and_left, and_right, and_parts}
use Rattle.std.proofs.lemmas.List.{drop_all}
use Rattle.mh_profile.specs.declared.named_value.NamedValue.{NamedValue}
use Rattle.mh_sequences.proofs.NamePlaces.{same_is, same_self}
use Rattle.sequence_commits.specs.Telling.{same_entries}

-- one entry is another
abbrev pub same_one : NamedValue → NamedValue → Bool
same_one x y = bytes_eq x.name y.name && bytes_eq x.value y.value

-- lists of other lengths
pub other_length : (a b : List NamedValue) → (length a ≡ length b → ⊥) → false ≡ same_entries a b
unfolding same_entries
other_length [] [] h = absurd (h refl)
other_length [] (y ∷ ys) h = refl
other_length (x ∷ xs) [] h = refl
other_length (x ∷ xs) (y ∷ ys) h = sym (and_right (same_one x y) (same_entries xs ys) (sym (other_length xs ys (λ e. h (omega (arith, e))))))

here : (a : List NamedValue) (i : ℕ) (x : NamedValue) → i < length a → x ≡ get_or a i x → drop i a ≡ x ∷ drop (i + 1) a
here a i x lt is = rw (add-one, drop-cons a i x) (ap (λ y. y ∷ drop (suc i) a) (sym is))

step : (a b : List NamedValue) (i : ℕ) (x y : NamedValue) → i < length a → length a ≡ length b → x ≡ get_or a i x → y ≡ get_or b i y → same_entries (drop i a) (drop i b) ≡ same_one x y && same_entries (drop (i + 1) a) (drop (i + 1) b)
unfolding same_entries
step a b i x y lt n is at = (λ j. same_entries (here a i x lt is j) (here b i y (omega (arith, n, lt)) at j))

-- the next two are not alike
pub next_differs : (a b : List NamedValue) (i : ℕ) (x y : NamedValue) (t : Bool) → i < length a → length a ≡ length b → x ≡ get_or a i x → y ≡ get_or b i y → t ≡ same_one x y → t ≡ false → same_entries a b ≡ same_entries (drop i a) (drop i b) → false ≡ same_entries a b
next_differs a b i x y t lt n is at e f was = sym (was ∙ step a b i x y lt n is at ∙ and_left (same_one x y) (same_entries (drop (i + 1) a) (drop (i + 1) b)) (sym e ∙ f))

-- they are
pub next_alike : (a b : List NamedValue) (i : ℕ) (x y : NamedValue) (t : Bool) → i < length a → length a ≡ length b → x ≡ get_or a i x → y ≡ get_or b i y → t ≡ same_one x y → t ≡ true → same_entries a b ≡ same_entries (drop i a) (drop i b) → same_entries a b ≡ same_entries (drop (i + 1) a) (drop (i + 1) b)
next_alike a b i x y t lt n is at e f was = was ∙ step a b i x y lt n is at ∙ ap (λ z. z && same_entries (drop (i + 1) a) (drop (i + 1) b)) (sym e ∙ f)

-- all are
pub all_alike : (a b : List NamedValue) (i : ℕ) → length a ≤ i → length a ≡ length b → same_entries a b ≡ same_entries (drop i a) (drop i b) → true ≡ same_entries a b
unfolding same_entries
all_alike a b i le n was = sym (was ∙ (λ j. same_entries (drop_all i a le j) (drop_all i b (omega (arith, le, n)) j)))

-- lists that are alike are the same
pub alike_same : (a b : List NamedValue) → same_entries a b ≡ true → a ≡ b
unfolding same_entries
alike_same [] [] e = refl
alike_same [] (y ∷ ys) e = cc
alike_same (x ∷ xs) [] e = cc
alike_same (x ∷ xs) (y ∷ ys) e =
    let parts = and_parts (same_one x y) (same_entries xs ys) e in
    let both = and_parts (bytes_eq x.name y.name) (bytes_eq x.value y.value) parts.0 in
    let name = same_is x.name y.name both.0 in
    let value = same_is x.value y.value both.1 in
    let rest = alike_same xs ys parts.1 in
    λ i. record { name = name i; value = value i } ∷ rest i

-- and the same are alike
pub self_alike : (a : List NamedValue) → same_entries a a ≡ true
unfolding same_entries
self_alike [] = refl
self_alike (x ∷ xs) = λ i. (same_self x.name i && same_self x.value i) && self_alike xs i
