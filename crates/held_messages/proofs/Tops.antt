-- The highest number of a listing, and what a listing tells of numbers.
use Rattle.std.proofs.Common.{◌≡◌, ◌⊎◌, inl, inr, ◌&&◌, ◌||◌, ℕ, ◌≤◌, ◌==◌, Bool, true, false, List, [], ◌∷◌, Option, Some, None, refl, sym, ◌∙◌, ap, arith, max, ◌+◌, ◌<◌, drop, get_or, length}
use Rattle.std.specs.Prelude.{is_some, decimal, if◌then◌else◌}
use Rattle.std.proofs.lemmas.Bool.Decides.{nat_tests, Decides-eqb}
use Rattle.std.proofs.lemmas.List.{drop_all}
use Rattle.mh_base.specs.Numbers.{IsMsgNum, number_of}
use Rattle.folder_files.specs.Standing.{is_standing}
use Rattle.folder_files.specs.Steps.{has_text}
use Rattle.folder_files.specs.declared.place.Place.{Place}
use Rattle.folder_files.proofs.Names.{or_case}
use Rattle.file_plans.specs.Contents.{Contents, IsListingIn}
use Rattle.file_plans.specs.Mailboxes.{numbered, is_message_number}
use Rattle.file_plans.specs.Sightings.{has_number, is_this}
use Rattle.file_plans.proofs.NumberTexts.{has_number_text}
use Rattle.file_plans.proofs.Showing.{number_kind, number_ok}
use Rattle.step_plans.proofs.Rounds.{next}
use Rattle.held_messages.specs.Highest.{above, highest}

-- the highest number of a listing
at_or_above : (o : Option ℕ) (top k : ℕ) → is_this k o ≡ true → k ≤ above o top
at_or_above None top k e = cc
at_or_above (Some n) top k e = let same : n ≡ k = (Decides-eqb n k).0 e in omega (arith, same)

below_above : (o : Option ℕ) (top k : ℕ) → k ≤ top → k ≤ above o top
below_above None top k l = l
below_above (Some n) top k l = omega (arith, l)

pub highest_above : (names : List (List ℕ)) (k : ℕ) → has_number k names ≡ true → k ≤ highest names
unfolding highest
highest_above [] k e = cc
highest_above (x ∷ names) k e = elim (or_case (is_this k (number_of x)) (has_number k names) e) [
  | inl f ↦ at_or_above (number_of x) (highest names) k f
  | inr f ↦ below_above (number_of x) (highest names) k (highest_above names k f)
]

pub highest_there : (names : List (List ℕ)) → (highest names ≡ 0) ⊎ (has_number (highest names) names ≡ true)
unfolding highest
highest_there [] = inl refl
highest_there (x ∷ names) = go (number_of x) (highest names) refl (highest_there names)
  where
    or_right : (a b : Bool) → b ≡ true → a || b ≡ true
    or_right true b e = refl
    or_right false b e = e

    pick : (n top m : ℕ) → m ≡ max n top → (m ≡ n) ⊎ (m ≡ top)
    pick n top m e = grind (arith, nat_tests)

    go : (o : Option ℕ) (top : ℕ) → number_of x ≡ o → (top ≡ 0) ⊎ (has_number top names ≡ true) → (above o top ≡ 0) ⊎ (is_this (above o top) o || has_number (above o top) names ≡ true)
    go None top e (inl f) = inl f
    go None top e (inr f) = inr f
    go (Some n) top e rest = elim (pick n top (max n top) refl) [
      | inl f ↦ inr (ap (λ m. (n == m) || has_number m names) f ∙ ap (λ b. b || has_number n names) ((Decides-eqb n n).1 refl))
      | inr f ↦ by_top f rest
    ]
      where
        by_top : max n top ≡ top → (top ≡ 0) ⊎ (has_number top names ≡ true) → (max n top ≡ 0) ⊎ ((n == max n top) || has_number (max n top) names ≡ true)
        by_top f (inl g) = inl (f ∙ g)
        by_top f (inr g) = inr (ap (λ m. (n == m) || has_number m names) f ∙ or_right (n == top) (has_number top names) g)

-- a listing tells of the numbers, alone and beside other runs
number_stands_so : (k : ℕ) → IsMsgNum k → is_standing (decimal k) ≡ true
number_stands_so k ok = rw (number_kind k ok) refl

numbers_told : (c : Contents) (p : Place) (names : List (List ℕ)) → ((x : List ℕ) → is_standing x ≡ true → is_some (c.texts p x) ≡ has_text x names) → (k : ℕ) → is_some (numbered k (c.texts p (decimal k))) ≡ has_number k names
numbers_told c p names told k = go (is_message_number k) refl ∙ sym (has_number_text k names)
  where
    go : (v : Bool) → is_message_number k ≡ v → is_some (if v then c.texts p (decimal k) else None) ≡ v && has_text (decimal k) names
    go true e = told (decimal k) (number_stands_so k (number_ok k e))
    go false e = refl

pub list_told : (c : Contents) (p : Place) (names : List (List ℕ)) → IsListingIn c p names → (k : ℕ) → is_some (numbered k (c.texts p (decimal k))) ≡ has_number k names
list_told c p names l = numbers_told c p names (λ x standing. sym (l.all x))

-- one name after another
pub zero_max : (n : ℕ) → max 0 n ≡ n
zero_max n = grind (arith, nat_tests)

max_grouped : (a b c : ℕ) → max (max a b) c ≡ max b (max a c)
max_grouped a b c = grind (arith, nat_tests)

above_max : (o : Option ℕ) (top rest : ℕ) → max (above o top) rest ≡ max top (above o rest)
above_max None top rest = refl
above_max (Some n) top rest = max_grouped n top rest

pub higher_on : (names : List (List ℕ)) (i : ℕ) (x : List ℕ) (top now : ℕ) → i < length names → x ≡ get_or names i x → now ≡ above (number_of x) top → max top (highest (drop i names)) ≡ highest names → max now (highest (drop (i + 1) names)) ≡ highest names
unfolding highest
higher_on names i x top now lt is e so =
    ap (λ n. max n (highest (drop (i + 1) names))) e ∙ (above_max (number_of x) top (highest (drop (i + 1) names)) ∙ (sym (ap (λ l. max top (highest l)) (next names i x lt is)) ∙ so))

max_zero : (n : ℕ) → max n 0 ≡ n
max_zero n = grind (arith, nat_tests)

pub higher_all : (names : List (List ℕ)) (i top : ℕ) → length names ≤ i → max top (highest (drop i names)) ≡ highest names → top ≡ highest names
unfolding highest
higher_all names i top le so = sym (ap (λ l. max top (highest l)) (drop_all i names le) ∙ max_zero top) ∙ so
