-- Two lists side by side, one item after another.
use Rattle.std.proofs.Common.{◌≡◌, ◌<◌, ◌≤◌, ◌+◌, ℕ, List, [], ◌∷◌, ◌++◌, length, drop, get_or, map, min, refl, sym, ap, ◌∙◌, arith, add-one, append_assoc, append-nil, drop-cons, ⊎_elim}
use Rattle.std.specs.List.{zip}
use Rattle.std.proofs.lemmas.Bool.{cases_lt}
use Rattle.std.proofs.lemmas.List.{drop_all}

module _ {A B C : Type 0} (f : A × B → C) where
  abbrev paired : List A → List B → List C
  paired xs ys = map f (zip xs ys)

  next : (xs : List A) (ys : List B) (i : ℕ) (x : A) (y : B) → i < length xs → i < length ys → x ≡ get_or xs i x → y ≡ get_or ys i y → paired (drop i xs) (drop i ys) ≡ f (x, y) ∷ paired (drop (i + 1) xs) (drop (i + 1) ys)
  next xs ys i x y h k ex ey =
      let first : drop i xs ≡ x ∷ drop (i + 1) xs = drop-cons xs i x h ∙ (λ j. sym ex j ∷ drop (sym (add-one i) j) xs) in
      let second : drop i ys ≡ y ∷ drop (i + 1) ys = drop-cons ys i y k ∙ (λ j. sym ey j ∷ drop (sym (add-one i) j) ys) in
      λ j. paired (first j) (second j)

  -- one more of both
  pub one_paired : (xs : List A) (ys : List B) (old new : List C) (i : ℕ) (x : A) (y : B) → i < min (length xs) (length ys) → x ≡ get_or xs i x → y ≡ get_or ys i y → new ≡ old ++ f (x, y) ∷ []
      → old ++ paired (drop i xs) (drop i ys) ≡ paired xs ys → new ++ paired (drop (i + 1) xs) (drop (i + 1) ys) ≡ paired xs ys
  one_paired xs ys old new i x y h ex ey en was =
      ap (λ l. l ++ paired (drop (i + 1) xs) (drop (i + 1) ys)) en ∙ append_assoc old (f (x, y) ∷ []) (paired (drop (i + 1) xs) (drop (i + 1) ys))
      ∙ ap (λ l. old ++ l) (sym (next xs ys i x y (omega (arith, h)) (omega (arith, h)) ex ey)) ∙ was

  none_first : (ys : List B) → paired [] ys ≡ []
  none_first ys = refl

  none_second : (xs : List A) → paired xs [] ≡ []
  none_second [] = refl
  none_second (x ∷ xs) = refl

  none_left : (xs : List A) (ys : List B) (i : ℕ) → min (length xs) (length ys) ≤ i → paired (drop i xs) (drop i ys) ≡ []
  none_left xs ys i h = ⊎_elim (λ lt. ap (paired (drop i xs)) (drop_all i ys (omega (arith, h, lt))) ∙ none_second (drop i xs)) (λ ge. ap (λ l. paired l (drop i ys)) (drop_all i xs ge)) (cases_lt i (length xs))

  pub all_paired : (xs : List A) (ys : List B) (old : List C) (i : ℕ) → min (length xs) (length ys) ≤ i → old ++ paired (drop i xs) (drop i ys) ≡ paired xs ys → old ≡ paired xs ys
  all_paired xs ys old i h was = sym (append-nil old) ∙ ap (λ l. old ++ l) (sym (none_left xs ys i h)) ∙ was

pub map_same : {C : Type 0} (l : List C) → map (λ x. x) l ≡ l
map_same [] = refl
map_same (x ∷ l) = ap (λ t. x ∷ t) (map_same l)

-- the same without more
pub all_zipped : {A B : Type 0} (xs : List A) (ys : List B) (old : List (A × B)) (i : ℕ) → min (length xs) (length ys) ≤ i → old ++ zip (drop i xs) (drop i ys) ≡ zip xs ys → old ≡ zip xs ys
all_zipped xs ys old i h was =
    let none : zip (drop i xs) (drop i ys) ≡ [] = sym (map_same (zip (drop i xs) (drop i ys))) ∙ none_left (λ p. p) xs ys i h in
    sym (append-nil old) ∙ ap (λ l. old ++ l) (sym none) ∙ was

zip_none : {A B : Type 0} (xs : List A) → zip {X = B} xs [] ≡ []
zip_none [] = refl
zip_none (x ∷ xs) = refl

-- beside a list that has ended, it doesn't matter what is left of the other
pub zip_ended : {A B : Type 0} (l more : List A) (ys : List B) (old all : List (A × B)) (i : ℕ) → length ys ≤ i → old ++ zip l (drop i ys) ≡ all → old ++ zip more (drop i ys) ≡ all
zip_ended l more ys old all i h was =
    let e : drop i ys ≡ [] = drop_all i ys h in
    ap (λ d. old ++ d) (ap (zip more) e ∙ zip_none more ∙ sym (zip_none l) ∙ ap (zip l) (sym e)) ∙ was

pub one_less : {X : Type 0} (n m : ℕ) (left more : List X) (x : X) → left ≡ x ∷ more → m + 1 ≡ n → n ≡ length left → m ≡ length more
one_less n m left more x is step all = let l : length left ≡ length more + 1 = ap length is ∙ omega arith in omega (arith, step, all, l)

pub map_more : {A B : Type 0} (f : A → B) (xs : List A) (x : A) → map f (xs ++ x ∷ []) ≡ map f xs ++ f x ∷ []
map_more f [] x = refl
map_more f (y ∷ xs) x = ap (λ l. f y ∷ l) (map_more f xs x)

pub map_twice : {A B C : Type 0} (f : A → B) (g : B → C) (xs : List A) → map (λ x. g (f x)) xs ≡ map g (map f xs)
map_twice f g [] = refl
map_twice f g (x ∷ xs) = ap (λ l. g (f x) ∷ l) (map_twice f g xs)
