-- Names, and the keys that stand for them.
use Rattle.std.proofs.Common.{◌≡◌, ℕ, ◌+◌, Bool, true, false, List, [], ◌∷◌, map, ⊎_elim, refl, sym, ◌∙◌, ap, arith}
use Rattle.std.specs.Prelude.{◌&&◌, ◌||◌, not, nat_eq, bytes_eq}
use Rattle.std.specs.Char.{to_ascii_lowercase, to_ascii_uppercase}
use Rattle.std.proofs.lemmas.Bool.{and_parts, not-true, cases_Bool, or_cases, eqb-true, cases_lt}
use Rattle.std.proofs.lemmas.Slice.Eq.{bytes_eq-Decides}
use Rattle.std.proofs.lemmas.Str.Ascii.{lowercase-uppercase, lowercase_is, uppercase_is}
use Rattle.mail_headers.specs.Fields.{same_name}
use Rattle.mh_profile.specs.Names.{is_attribute, same_entry, key_of}

upper_of_lower : (c : ℕ) → to_ascii_uppercase (to_ascii_lowercase c) ≡ to_ascii_uppercase c
upper_of_lower c =
    ⊎_elim (λ l. ap to_ascii_uppercase ((lowercase_is c).1 l))
    (λ l. ⊎_elim
    (λ m. let low : to_ascii_lowercase c ≡ c + 32 = (lowercase_is c).0 (l, omega arith) in let up = (uppercase_is (c + 32)).0 (omega arith, omega arith) in let stays = (uppercase_is c).1 (omega arith) in ap to_ascii_uppercase low ∙ omega (arith, up, stays))
    (λ m. ap to_ascii_uppercase ((lowercase_is c).2 (omega arith)))
    (cases_lt c 91))
    (cases_lt c 65)

capitals_of_small : (xs : List ℕ) → map to_ascii_uppercase (map to_ascii_lowercase xs) ≡ map to_ascii_uppercase xs
capitals_of_small [] = refl
capitals_of_small (x ∷ xs) = λ i. upper_of_lower x i ∷ capitals_of_small xs i

small_of_capitals : (xs : List ℕ) → map to_ascii_lowercase (map to_ascii_uppercase xs) ≡ map to_ascii_lowercase xs
small_of_capitals [] = refl
small_of_capitals (x ∷ xs) = λ i. lowercase-uppercase x i ∷ small_of_capitals xs i

same_capitals : (a b : List ℕ) → same_name a b ≡ true → map to_ascii_uppercase a ≡ map to_ascii_uppercase b
same_capitals a b h =
    let small : map to_ascii_lowercase a ≡ map to_ascii_lowercase b = (bytes_eq-Decides (map to_ascii_lowercase a) (map to_ascii_lowercase b)).0 h in
    sym (capitals_of_small a) ∙ ap (map to_ascii_uppercase) small ∙ capitals_of_small b

same_small : (a b : List ℕ) → map to_ascii_uppercase a ≡ map to_ascii_uppercase b → same_name a b ≡ true
same_small a b e =
    (bytes_eq-Decides (map to_ascii_lowercase a) (map to_ascii_lowercase b)).1
    (sym (small_of_capitals a) ∙ ap (map to_ascii_lowercase) e ∙ small_of_capitals b)

no_small_a : (c : ℕ) → to_ascii_uppercase c ≡ 97 → ⊥
no_small_a c e =
    ⊎_elim (λ l. let stays = (uppercase_is c).1 l in omega (arith, stays, e))
    (λ l. ⊎_elim (λ m. let up = (uppercase_is c).0 (l, omega arith) in omega (arith, up, e)) (λ m. let stays = (uppercase_is c).2 (omega arith) in omega (arith, stays, e)) (cases_lt c 123))
    (cases_lt c 97)

first_small_a : (c : ℕ) (cs : List ℕ) → is_attribute (c ∷ cs) ≡ true → 97 ≡ c
first_small_a c cs h = eqb-true 97 c (and_parts (nat_eq 97 c) _ h).0

-- no name in capitals is an attribute's
apart : (a b : List ℕ) → is_attribute a ≡ true → a ≡ map to_ascii_uppercase b → ⊥
apart [] b h e = cc
apart (c ∷ cs) [] h e = cc
apart (c ∷ cs) (d ∷ ds) h e = let same : c ≡ to_ascii_uppercase d = cc in no_small_a d (sym same ∙ sym (first_small_a c cs h))

key_attribute : (a : List ℕ) → is_attribute a ≡ true → key_of a ≡ a
unfolding key_of
key_attribute a h = rw h refl

key_other : (a : List ℕ) → is_attribute a ≡ false → key_of a ≡ map to_ascii_uppercase a
unfolding key_of
key_other a h = rw h refl

one_key : (a b : List ℕ) → same_entry a b ≡ true → key_of a ≡ key_of b
unfolding same_entry
one_key a b h =
    ⊎_elim (λ e. ap key_of ((bytes_eq-Decides a b).0 e))
    (λ e. let parts = and_parts (not (is_attribute a) && not (is_attribute b)) (same_name a b) e in let both = and_parts (not (is_attribute a)) (not (is_attribute b)) parts.0 in
    key_other a (not-true (is_attribute a) both.0) ∙ same_capitals a b parts.1 ∙ sym (key_other b (not-true (is_attribute b) both.1)))
    (or_cases (bytes_eq a b) (not (is_attribute a) && not (is_attribute b) && same_name a b) h)

equal_names : (a b : List ℕ) → a ≡ b → same_entry a b ≡ true
unfolding same_entry
equal_names a b e = rw ((bytes_eq-Decides a b).1 e) refl

by_case : (a b : List ℕ) → is_attribute a ≡ false → is_attribute b ≡ false → same_name a b ≡ true → same_entry a b ≡ true
unfolding same_entry
by_case a b p q s = let all : not (is_attribute a) && not (is_attribute b) && same_name a b ≡ true = rw (p, q, s) refl in or_right (bytes_eq a b) _ all
  where
    or_right : (x y : Bool) → y ≡ true → x || y ≡ true
    or_right true y e = refl
    or_right false y e = e

one_name : (a b : List ℕ) → key_of a ≡ key_of b → same_entry a b ≡ true
one_name a b e =
    ⊎_elim
    (λ p. ⊎_elim (λ q. equal_names a b (sym (key_attribute a p) ∙ e ∙ key_attribute b q)) (λ q. absurd (apart a b p (sym (key_attribute a p) ∙ e ∙ key_other b q))) (cases_Bool (is_attribute b)))
    (λ p. ⊎_elim (λ q. absurd (apart b a q (sym (key_attribute b q) ∙ sym e ∙ key_other a p))) (λ q. by_case a b p q (same_small a b (sym (key_other a p) ∙ e ∙ key_other b q))) (cases_Bool (is_attribute b)))
    (cases_Bool (is_attribute a))

equal_tests : (x y : Bool) → (x ≡ true → y ≡ true) → (y ≡ true → x ≡ true) → x ≡ y
equal_tests true y f g = sym (f refl)
equal_tests false true f g = g refl
equal_tests false false f g = refl

-- two names are the same exactly where they have one key
pub same_by_key : (a b : List ℕ) → same_entry a b ≡ bytes_eq (key_of a) (key_of b)
same_by_key a b =
    equal_tests (same_entry a b) (bytes_eq (key_of a) (key_of b)) (λ h. (bytes_eq-Decides (key_of a) (key_of b)).1 (one_key a b h)) (λ h. one_name a b ((bytes_eq-Decides (key_of a) (key_of b)).0 h))

pub same_sym : (a b : List ℕ) → same_entry a b ≡ same_entry b a
same_sym a b = equal_tests (same_entry a b) (same_entry b a) (λ h. one_name b a (sym (one_key a b h))) (λ h. one_name a b (sym (one_key b a h)))

-- the same names are the same as others
pub same_as : (a b c : List ℕ) → same_entry a b ≡ true → same_entry a c ≡ same_entry b c
same_as a b c h = same_by_key a c ∙ ap (λ k. bytes_eq k (key_of c)) (one_key a b h) ∙ sym (same_by_key b c)
