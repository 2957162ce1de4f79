-- Values on one line.
use Rattle.std.proofs.Common.{◌≡◌, ℕ, zero, suc, ◌+◌, ◌-◌, ◌<◌, Bool, true, false, List, [], ◌∷◌, ◌++◌, length, get_or, take, drop, reverse, ⊎_elim, refl, sym, ◌∙◌, ap, subst, arith, length-drop, length-append}
use Rattle.std.specs.Prelude.{◌||◌, ◌==◌, ◌↔◌, not, slice_index}
use Rattle.std.specs.List.{prefix_len, suffix_len, list_all}
use Rattle.std.proofs.lemmas.List.{length-take, length-reverse, get_or-reverse, get_or-take, get_or-drop, get_or_at, take_at, take_all, length-take-le}
use Rattle.std.proofs.lemmas.List.Sums.{prefix_len_is, prefix_len_stops, suffix_len_is}
use Rattle.std.proofs.lemmas.Bool.{and_parts, and_from, and_right, eq-eqb, eqb-true, false≢true, not-true, both_ways, cases_Bool}
use Rattle.mail_headers.specs.Lines.{without_end, without_feed}
use Rattle.mail_headers.specs.Unfolding.{ends_line, joined, is_edge, trimmed, unfolded}
use Rattle.mh_profile.specs.Values.{IsUnfolded, is_no_feed}
use Rattle.mh_base.specs.Characters.{is_blank}

or_right : (x y : Bool) → y ≡ true → x || y ≡ true
or_right true y e = refl
or_right false y e = e

module _ (p : ℕ → Bool) where
  pub all_take : (n : ℕ) (xs : List ℕ) → list_all p xs ≡ true → list_all p (take n xs) ≡ true
  all_take zero xs h = refl
  all_take (suc n) [] h = refl
  all_take (suc n) (x ∷ xs) h = let parts = and_parts (p x) (list_all p xs) h in and_from _ _ parts.0 (all_take n xs parts.1)

  pub all_drop : (n : ℕ) (xs : List ℕ) → list_all p xs ≡ true → list_all p (drop n xs) ≡ true
  all_drop zero xs h = h
  all_drop (suc n) [] h = refl
  all_drop (suc n) (x ∷ xs) h = all_drop n xs (and_parts (p x) (list_all p xs) h).1

  -- the first of what is left fails the test
  front : (y : List ℕ) → 0 < length (drop (prefix_len p y) y) → p (get_or (drop (prefix_len p y) y) 0 0) ≡ false
  front y some =
      let inside : prefix_len p y < length y = omega (arith, length-drop (prefix_len p y) y) in
      let here : prefix_len p y + 0 ≡ prefix_len p y = omega arith in
      ap p (get_or-drop (prefix_len p y) y 0 0 ∙ ap (λ k. get_or y k 0) here) ∙ prefix_len_stops p y 0 inside

  -- the last of what is left fails the test
  back : (f : List ℕ) → 0 < length f - suffix_len p f → p (get_or f (length f - suffix_len p f - 1) 0) ≡ false
  back f some =
      let whole = length-reverse f in
      let inside : prefix_len p (reverse f) < length (reverse f) = omega (arith, some) in
      let place : length f - 1 - suffix_len p f ≡ length f - suffix_len p f - 1 = omega arith in
      ap p (sym (get_or-reverse f (suffix_len p f) 0 (omega arith) ∙ ap (λ k. get_or f k 0) place)) ∙ prefix_len_stops p (reverse f) 0 inside

-- what is trimmed has no edge at its front
pub trimmed_front : (y : List ℕ) → prefix_len is_edge (trimmed y) ≡ 0
trimmed_front y =
    let f : List ℕ = drop (prefix_len is_edge y) y in
    let n : ℕ = length f - suffix_len is_edge f in
    prefix_len_is is_edge (take n f) 0 0 (omega arith) (λ k l. absurd (omega arith))
    (λ l. let long = length-take n f in let some : 0 < n = omega (arith, long, l) in let any : 0 < length f = omega (arith, long, l) in ap is_edge (get_or-take n f 0 0 some) ∙ front is_edge y any)

-- and none at its end
pub trimmed_back : (y : List ℕ) → suffix_len is_edge (trimmed y) ≡ 0
trimmed_back y =
    let f : List ℕ = drop (prefix_len is_edge y) y in
    let n : ℕ = length f - suffix_len is_edge f in
    let long : length (take n f) ≡ n = length-take-le n f (omega arith) in
    let none = suffix_len_is is_edge (take n f) (length (take n f)) 0 (omega arith) (λ k from below. absurd (omega arith))
    (λ l. let some : 0 < n = omega (arith, long, l) in let before : n - 1 < n = omega arith in ap (λ k. is_edge (get_or (take n f) (k - 1) 0)) long ∙ ap is_edge (get_or-take n f (n - 1) 0 before) ∙ back is_edge f some) in
    none ∙ omega arith

all_but_none : (v : List ℕ) (s : ℕ) → s ≡ 0 → take (length v - s) v ≡ v
all_but_none v s e = take_all (length v - s) v (omega arith)

trimmed_same : (v : List ℕ) → prefix_len is_edge v ≡ 0 → suffix_len is_edge v ≡ 0 → trimmed v ≡ v
trimmed_same v a b = ap (λ k. take (length (drop k v) - suffix_len is_edge (drop k v)) (drop k v)) a ∙ all_but_none v (suffix_len is_edge v) b

first_no_feed : (rest : List ℕ) → list_all is_no_feed rest ≡ true → slice_index rest 0 == 10 ≡ false
first_no_feed [] h = refl
first_no_feed (b ∷ bs) h = not-true (b == 10) (and_parts (is_no_feed b) (list_all is_no_feed bs) h).0

goes_on : (b : ℕ) (rest : List ℕ) → b == 10 ≡ false → slice_index rest 0 == 10 ≡ false → ends_line b rest ≡ false
goes_on b rest e f = rw (e, f) (and_right (b == 13) false refl)

-- without line feeds nothing is dropped
pub joined_same : (xs : List ℕ) → list_all is_no_feed xs ≡ true → joined xs ≡ xs
unfolding joined
joined_same [] h = refl
joined_same (b ∷ rest) h =
    let parts = and_parts (is_no_feed b) (list_all is_no_feed rest) h in
    let stays : ends_line b rest ≡ false = goes_on b rest (not-true (b == 10) parts.0) (first_no_feed rest parts.1) in
    rw stays (ap (λ t. b ∷ t) (joined_same rest parts.1))

keeps : (b : ℕ) (rest : List ℕ) → ends_line b rest ≡ false → is_no_feed b ≡ true
keeps b rest e = ⊎_elim (λ f. absurd (both_ways (ends_line b rest) e (rw f refl))) (λ f. ap not f) (cases_Bool (b == 10))

-- what is joined has no line feeds
pub joined_clean : (xs : List ℕ) → list_all is_no_feed (joined xs) ≡ true
unfolding joined
joined_clean [] = refl
joined_clean (b ∷ rest) =
    ⊎_elim (λ e. rw e (joined_clean rest)) (λ e. rw e (and_from (is_no_feed b) (list_all is_no_feed (joined rest)) (keeps b rest e) (joined_clean rest))) (cases_Bool (ends_line b rest))

trimmed_clean : (y : List ℕ) → list_all is_no_feed y ≡ true → list_all is_no_feed (trimmed y) ≡ true
trimmed_clean y h =
    let f : List ℕ = drop (prefix_len is_edge y) y in
    all_take is_no_feed (length f - suffix_len is_edge f) f (all_drop is_no_feed (prefix_len is_edge y) y h)

unfolded_clean : (v : List ℕ) → list_all is_no_feed (unfolded v) ≡ true
unfolding unfolded
unfolded_clean v = trimmed_clean (joined v) (joined_clean v)

-- what is unfolded stands on one line
pub IsUnfolded-unfolded : (v : List ℕ) → IsUnfolded (unfolded v)
unfolding unfolded
IsUnfolded-unfolded v =
    record { same = ap trimmed (joined_same (trimmed (joined v)) (trimmed_clean (joined v) (joined_clean v))) ∙ trimmed_same (trimmed (joined v)) (trimmed_front (joined v)) (trimmed_back (joined v)) }

pub value_clean : (v : List ℕ) → IsUnfolded v → list_all is_no_feed v ≡ true
value_clean v h = subst (λ z. list_all is_no_feed z ≡ true) h.same (unfolded_clean v)

pub value_front : (v : List ℕ) → IsUnfolded v → prefix_len is_edge v ≡ 0
unfolding unfolded
value_front v h = subst (λ z. prefix_len is_edge z ≡ 0) h.same (trimmed_front (joined v))

pub value_back : (v : List ℕ) → IsUnfolded v → suffix_len is_edge v ≡ 0
unfolding unfolded
value_back v h = subst (λ z. suffix_len is_edge z ≡ 0) h.same (trimmed_back (joined v))

no_return : (b : ℕ) → is_edge b ≡ false → b == 13 ≡ false
no_return b e = ⊎_elim (λ f. absurd (both_ways (is_edge b) e (or_right (is_blank b) (b == 13) f))) (λ f. f) (cases_Bool (b == 13))

without_line_feed : (t : List ℕ) → without_end (t ++ 10 ∷ []) ≡ without_feed t
unfolding without_end
without_line_feed t =
    let long : length (t ++ 10 ∷ []) - 1 ≡ length t = omega (arith, length-append t (10 ∷ [])) in
    let last : slice_index (t ++ 10 ∷ []) (length (t ++ 10 ∷ []) - 1) ≡ 10 = ap (λ k. get_or (t ++ 10 ∷ []) k 0) long ∙ get_or_at t 10 [] 0 (length t) refl in
    rw last (ap without_feed (ap (λ k. take k (t ++ 10 ∷ [])) long ∙ take_at t (10 ∷ []) (length t) refl))

last_kept : (v : List ℕ) → IsUnfolded v → slice_index (32 ∷ v) (length (32 ∷ v) - 1) == 13 ≡ false
last_kept [] h = refl
last_kept (c ∷ cs) h =
    let none = value_back (c ∷ cs) h in
    let place : length (c ∷ cs) - suffix_len is_edge (c ∷ cs) - 1 ≡ length cs = omega arith in
    let at : length (32 ∷ c ∷ cs) - 1 ≡ suc (length cs) = omega arith in
    ap (λ k. get_or (32 ∷ c ∷ cs) k 0 == 13) at ∙ no_return (get_or (c ∷ cs) (length cs) 0) (ap (λ k. is_edge (get_or (c ∷ cs) k 0)) (sym place) ∙ back is_edge (c ∷ cs) (omega arith))

joined_behind_space : (v : List ℕ) → joined (32 ∷ v) ≡ 32 ∷ joined v
unfolding joined
joined_behind_space v = refl

unfolded_behind_space : (v : List ℕ) → IsUnfolded v → unfolded (32 ∷ v) ≡ v
unfolding unfolded
unfolded_behind_space v h =
    let one : 1 + prefix_len is_edge v ≡ 1 = omega (arith, value_front v h) in
    ap trimmed (joined_behind_space v ∙ ap (λ t. 32 ∷ t) (joined_same v (value_clean v h)))
    ∙ ap (λ k. take (length (drop k (32 ∷ v)) - suffix_len is_edge (drop k (32 ∷ v))) (drop k (32 ∷ v))) one
    ∙ all_but_none v (suffix_len is_edge v) (value_back v h)

-- a value on one line, behind a space and before a line feed, is read as it is
pub value_read : (v : List ℕ) → IsUnfolded v → unfolded (without_end (32 ∷ v ++ 10 ∷ [])) ≡ v
value_read v h =
    let kept : without_feed (32 ∷ v) ≡ 32 ∷ v = rw (last_kept v h) refl in
    ap unfolded (without_line_feed (32 ∷ v) ∙ kept) ∙ unfolded_behind_space v h

-- a value with no line feed and bare ends stands on one line
pub bare_value : (v : List ℕ) → list_all is_no_feed v ≡ true → prefix_len is_edge v ≡ 0 → suffix_len is_edge v ≡ 0 → IsUnfolded v
unfolding unfolded
bare_value v clean first last = record { same = ap trimmed (joined_same v clean) ∙ trimmed_same v first last }

-- what the tests of a value say
pub some_feed : (v : List ℕ) (r : Bool) → r ≡ list_all is_no_feed v → r ≡ false → (false ≡ true) ↔ IsUnfolded v
some_feed v r is e = (λ h. absurd (false≢true h), λ u. absurd (false≢true (sym e ∙ is ∙ value_clean v u)))

pub some_edge : (v : List ℕ) (r : Bool) → r ≡ (prefix_len is_edge v == 0) → r ≡ false → (false ≡ true) ↔ IsUnfolded v
some_edge v r is e = (λ h. absurd (false≢true h), λ u. absurd (false≢true (sym e ∙ is ∙ eq-eqb (prefix_len is_edge v) 0 (value_front v u))))

pub last_test : (v : List ℕ) (a b r : Bool) → a ≡ list_all is_no_feed v → a ≡ true → b ≡ (prefix_len is_edge v == 0) → b ≡ true → r ≡ (suffix_len is_edge v == 0) → (r ≡ true) ↔ IsUnfolded v
last_test v a b r one clean first bare is = (
  λ h. bare_value v (sym one ∙ clean) (eqb-true (prefix_len is_edge v) 0 (sym first ∙ bare)) (eqb-true (suffix_len is_edge v) 0 (sym is ∙ h)),
  λ u. is ∙ eq-eqb (suffix_len is_edge v) 0 (value_back v u),
)
