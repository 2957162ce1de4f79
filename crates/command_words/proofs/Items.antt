-- The items of words, one after another.
use Rattle.std.proofs.Common.{◌≡◌, ◌++◌, ◌∷◌, [], ℕ, ◌+◌, ◌<◌, ◌≤◌, Bool, List, Option, None, Some, Ok, Err, refl, sym, ◌∙◌, ap, drop, get_or, length, append_assoc, append-nil}
use Rattle.std.specs.Prelude.{option_map, map}
use Rattle.std.specs.Borrow.{Bor}
use Rattle.std.specs.List.{flat_map}
use Rattle.std.proofs.lemmas.List.{drop_all}
use Rattle.mh_base.specs.declared.word.WordWhy.TheVariants.{Extra}
use Rattle.mh_words.specs.declared.item.Item.{Item}
use Rattle.step_plans.proofs.Rounds.{next}
use Rattle.command_words.specs.FolderWords.{folders, one_folder, remaining, IsFolderSeen}
use Rattle.command_words.specs.Results.{IsOneFolder}
use Rattle.command_words.specs.Switches.{choice_in, last_or, last_choice}

abbrev pub IsLeft : List Item → ℕ → Option (Bor (List ℕ)) → Type 0
IsLeft items i found = remaining (option_map (λ w. w.now) found) (folders (drop i items)) ≡ one_folder (folders items)

pub seen_more : (items : List Item) (i : ℕ) (item : Item) (found later : Option (Bor (List ℕ))) → i < length items → item ≡ get_or items i item → IsFolderSeen (option_map (λ w. w.now) found) item (Ok later) → IsLeft items i found → IsLeft items (i + 1) later
seen_more items i item found later h is seen left = sym (seen (folders (drop (i + 1) items))) ∙ ap (λ l. remaining (option_map (λ w. w.now) found) (folders l)) (sym (next items i item h is)) ∙ left

pub seen_wrong : (items : List Item) (i : ℕ) (item : Item) (found : Option (Bor (List ℕ))) (place : ℕ) → i < length items → item ≡ get_or items i item → IsFolderSeen (option_map (λ w. w.now) found) item (Err place) → IsLeft items i found → one_folder (folders items) ≡ Err (record { place = place; why = Extra })
seen_wrong items i item found place h is seen left = sym left ∙ ap (λ l. remaining (option_map (λ w. w.now) found) (folders l)) (next items i item h is) ∙ seen (folders (drop (i + 1) items))

pub seen_all : (items : List Item) (i : ℕ) (found : Option (Bor (List ℕ))) → length items ≤ i → IsLeft items i found → IsOneFolder (one_folder (folders items)) (Ok found)
seen_all items i None h left = sym left ∙ ap (λ l. one_folder (folders l)) (drop_all i items h)
seen_all items i (Some w) h left = sym left ∙ ap (λ l. remaining (Some w.now) (folders l)) (drop_all i items h)

-- what the items have, one after another
pub texts_more : (f : Item → List (List ℕ)) (items : List Item) (i : ℕ) (item : Item) (old new : List (List ℕ)) → i < length items → item ≡ get_or items i item → new ≡ old ++ f item → old ++ flat_map f (drop i items) ≡ flat_map f items → new ++ flat_map f (drop (i + 1) items) ≡ flat_map f items
texts_more f items i item old new h is put left =
    ap (λ l. l ++ flat_map f (drop (i + 1) items)) put ∙ append_assoc old (f item) (flat_map f (drop (i + 1) items)) ∙ ap (λ l. old ++ flat_map f l) (sym (next items i item h is)) ∙ left

pub texts_all : (f : Item → List (List ℕ)) (items : List Item) (i : ℕ) (words : List (List ℕ)) → length items ≤ i → words ++ flat_map f (drop i items) ≡ flat_map f items → words ≡ flat_map f items
texts_all f items i words h left = sym (append-nil words) ∙ ap (λ l. words ++ flat_map f l) (sym (drop_all i items h)) ∙ left

last_append : (before : Option Bool) (xs ys : List Bool) → last_or before (xs ++ ys) ≡ last_or (last_or before xs) ys
last_append before [] ys = refl
last_append before (x ∷ xs) ys = last_append (Some x) xs ys

pub choice_more : (on off : ℕ) (items : List Item) (i : ℕ) (item : Item) (old new : Option Bool) → i < length items → item ≡ get_or items i item → new ≡ last_or old (choice_in on off item) → last_or old (flat_map (choice_in on off) (drop i items)) ≡ last_choice on off items →
    last_or new (flat_map (choice_in on off) (drop (i + 1) items)) ≡ last_choice on off items
choice_more on off items i item old new h is put left =
    let rest = flat_map (choice_in on off) (drop (i + 1) items) in
    ap (λ o. last_or o rest) put ∙ sym (last_append old (choice_in on off item) rest) ∙ ap (λ l. last_or old (flat_map (choice_in on off) l)) (sym (next items i item h is)) ∙ left

pub choice_all : (on off : ℕ) (items : List Item) (i : ℕ) (last : Option Bool) → length items ≤ i → last_or last (flat_map (choice_in on off) (drop i items)) ≡ last_choice on off items → last ≡ last_choice on off items
choice_all on off items i last h left = ap (λ l. last_or last (flat_map (choice_in on off) l)) (sym (drop_all i items h)) ∙ left

pub words_all : {A : Type 0} (f : A → List ℕ) (words : List A) (i : ℕ) (now all : List (List ℕ)) → length words ≤ i → now ++ map f (drop i words) ≡ all → now ≡ all
words_all f words i now all h left = sym (append-nil now) ∙ ap (λ l. now ++ map f l) (sym (drop_all i words h)) ∙ left
