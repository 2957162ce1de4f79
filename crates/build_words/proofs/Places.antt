-- The places of words of a sort, one word after another.
use Rattle.std.proofs.Common.{◌≡◌, ◌++◌, ◌∷◌, [], ℕ, ◌+◌, ◌<◌, ◌≤◌, List, refl, sym, ◌∙◌, ap, drop, get_or, length, append_assoc, append-nil}
use Rattle.std.proofs.lemmas.List.{drop_all}
use Rattle.build_words.specs.Sorts.{is_of, place_if, places}
use Rattle.build_words.specs.declared.sort.Sort.{Sort}
use Rattle.step_plans.proofs.Rounds.{next}

first_place : (sort : Sort) (i : ℕ) (word : List ℕ) (words : List (List ℕ)) → places sort i (word ∷ words) ≡ place_if (is_of sort word) i ++ places sort (i + 1) words
unfolding places
first_place sort i word words = refl

pub places_more : (sort : Sort) (words : List (List ℕ)) (i : ℕ) (word : List ℕ) (old new all : List ℕ) → i < length words → word ≡ get_or words i word → new ≡ old ++ place_if (is_of sort word) i
    → old ++ places sort i (drop i words) ≡ all → new ++ places sort (i + 1) (drop (i + 1) words) ≡ all
places_more sort words i word old new all h is put left =
    let rest = places sort (i + 1) (drop (i + 1) words) in
    ap (λ l. l ++ rest) put ∙ append_assoc old (place_if (is_of sort word) i) rest ∙ ap (λ l. old ++ l) (sym (first_place sort i word (drop (i + 1) words)) ∙ ap (places sort i) (sym (next words i word h is))) ∙ left

none_there : (sort : Sort) (i : ℕ) → places sort i [] ≡ []
unfolding places
none_there sort i = refl

pub places_all : (sort : Sort) (words : List (List ℕ)) (i : ℕ) (now all : List ℕ) → length words ≤ i → now ++ places sort i (drop i words) ≡ all → now ≡ all
places_all sort words i now all h left = sym (append-nil now) ∙ ap (λ l. now ++ l) (sym (none_there sort i) ∙ ap (places sort i) (sym (drop_all i words h))) ∙ left
