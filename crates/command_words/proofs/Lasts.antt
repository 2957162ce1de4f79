-- The last of what items have, one after another.
use Rattle.std.proofs.Common.{◌≡◌, ◌++◌, ◌∷◌, [], ℕ, ◌+◌, ◌<◌, ◌≤◌, List, refl, sym, ◌∙◌, ap, drop, get_or, length}
use Rattle.std.specs.List.{flat_map}
use Rattle.std.proofs.lemmas.List.{drop_all}
use Rattle.mh_words.specs.declared.item.Item.{Item}
use Rattle.step_plans.proofs.Rounds.{next}
use Rattle.command_words.specs.Switches.{last_behind}

last_both : {A : Type 0} (before : A) (xs ys : List A) → last_behind before (xs ++ ys) ≡ last_behind (last_behind before xs) ys
last_both before [] ys = refl
last_both before (x ∷ xs) ys = last_both x xs ys

pub last_more : {A : Type 0} (f : Item → List A) (items : List Item) (i : ℕ) (item : Item) (old new all : A) → i < length items → item ≡ get_or items i item → new ≡ last_behind old (f item)
    → last_behind old (flat_map f (drop i items)) ≡ all → last_behind new (flat_map f (drop (i + 1) items)) ≡ all
last_more f items i item old new all h is put left =
    let rest = flat_map f (drop (i + 1) items) in
    ap (λ o. last_behind o rest) put ∙ sym (last_both old (f item) rest) ∙ ap (λ l. last_behind old (flat_map f l)) (sym (next items i item h is)) ∙ left

pub last_all : {A : Type 0} (f : Item → List A) (items : List Item) (i : ℕ) (last all : A) → length items ≤ i → last_behind last (flat_map f (drop i items)) ≡ all → last ≡ all
last_all f items i last all h left = ap (λ l. last_behind last (flat_map f l)) (sym (drop_all i items h)) ∙ left
