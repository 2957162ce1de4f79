-- Names in byte order, each once.
use Rattle.std.proofs.Common.{◌≡◌, ◌||◌, ℕ, Bool, true, false, List, [], ◌∷◌, bytes_eq, map, refl, sym, ◌∙◌, ap, Ordering, nat_cmp}
use Rattle.std.specs.Prelude.{if◌then◌else◌, cond, is_some, Some}
use Rattle.std.specs.Cmp.Lexicographic.{slice_cmp}
use Rattle.std.specs.Cmp.{IsTotalOrder}
use Rattle.std.specs.List.{All, list_any, dedup, dedup_from}
use Rattle.std.specs.List.Retain.{IsFiltered, DiffersFromLast}
use Rattle.std.specs.List.Sorted.{IsPermutation, IsSorted, IsStrictlySortedBy}
use Rattle.std.proofs.lemmas.Cmp.{nat_list_cmp_total}
use Rattle.std.proofs.lemmas.List.Filters.{dedup_is, All-dedup}
use Rattle.std.proofs.lemmas.List.Kept.{IsStrictlySortedBy-dedup}
use Rattle.std.proofs.lemmas.List.Sorted.{list_any-IsPermutation, All-permutation}
use Rattle.std.proofs.lemmas.Map.Text.{is_eq-slice_cmp}
use Rattle.std.proofs.lemmas.Slice.Eq.{bytes_eq-Decides}
use Rattle.folder_files.specs.Steps.{IsAscending, has_text}
use Rattle.folder_files.specs.Worlds.{slot_of}
use Rattle.folder_files.specs.declared.world.Slot.{Slot}

-- items by their texts
module _ {X : Type 0} (f : X → List ℕ) where
  abbrev by_text : X → X → Ordering
  by_text a b = slice_cmp nat_cmp (f a) (f b)

  abbrev is_same : X → X → Bool
  is_same a b = bytes_eq (f a) (f b)

  by_text_total : IsTotalOrder by_text
  by_text_total = record {
    antisymm = λ x y. nat_list_cmp_total.antisymm (f x) (f y);
    trans = λ x y z. nat_list_cmp_total.trans (f x) (f y) (f z);
    congr = λ x y z. nat_list_cmp_total.congr (f x) (f y) (f z);
  }

  ascending : (ys : List X) → IsStrictlySortedBy by_text ys → IsAscending (map f ys)
  unfolding IsStrictlySortedBy
  ascending [] s = tt
  ascending (y ∷ []) s = tt
  ascending (y ∷ (z ∷ ys)) s = (s.0.0, ascending (z ∷ ys) s.1)

  pub dedup_ascending : (xs ys : List X) → IsSorted by_text xs → IsFiltered (DiffersFromLast is_same) [] xs ys → IsAscending (map f ys)
  dedup_ascending xs ys s d =
      ascending ys (rw (dedup_is is_same xs ys d) (IsStrictlySortedBy-dedup by_text_total (λ x y. sym (is_eq-slice_cmp (f x) (f y))) xs s))

  has_any : (x : List ℕ) (xs : List X) → has_text x (map f xs) ≡ list_any (λ k. bytes_eq (f k) x) xs
  has_any x [] = refl
  has_any x (y ∷ ys) = ap (λ b. bytes_eq (f y) x || b) (has_any x ys)

  any_from : (x : List ℕ) (k : X) (xs : List X) → list_any (λ y. bytes_eq (f y) x) (dedup_from is_same k xs) ≡ bytes_eq (f k) x || list_any (λ y. bytes_eq (f y) x) xs
  any_from x k [] = refl
  any_from x k (y ∷ ys) = go (is_same y k) ((bytes_eq-Decides (f y) (f k)).0) (any_from x k ys) (any_from x y ys)
    where
      twice : (a b : Bool) → a || b ≡ a || (a || b)
      twice true b = refl
      twice false b = refl

      go : (b : Bool) → (b ≡ true → f y ≡ f k) → list_any (λ z. bytes_eq (f z) x) (dedup_from is_same k ys) ≡ bytes_eq (f k) x || list_any (λ z. bytes_eq (f z) x) ys
          → list_any (λ z. bytes_eq (f z) x) (dedup_from is_same y ys) ≡ bytes_eq (f y) x || list_any (λ z. bytes_eq (f z) x) ys
          → list_any (λ z. bytes_eq (f z) x) (cond b (dedup_from is_same k ys) (k ∷ dedup_from is_same y ys)) ≡ bytes_eq (f k) x || (bytes_eq (f y) x || list_any (λ z. bytes_eq (f z) x) ys)
      go true e p q = p ∙ twice (bytes_eq (f k) x) (list_any (λ z. bytes_eq (f z) x) ys) ∙ ap (λ t. bytes_eq (f k) x || (bytes_eq t x || list_any (λ z. bytes_eq (f z) x) ys)) (sym (e refl))
      go false e p q = ap (λ b. bytes_eq (f k) x || b) q

  any_dedup : (x : List ℕ) (xs : List X) → list_any (λ y. bytes_eq (f y) x) (dedup is_same xs) ≡ list_any (λ y. bytes_eq (f y) x) xs
  any_dedup x [] = refl
  any_dedup x (y ∷ ys) = any_from x y ys

  -- the same texts after a sort and a dedup
  pub dedup_same : (ws xs ys : List X) (x : List ℕ) → IsPermutation ws xs → IsFiltered (DiffersFromLast is_same) [] xs ys → has_text x (map f ys) ≡ has_text x (map f ws)
  dedup_same ws xs ys x p d =
      has_any x ys ∙ ap (list_any (λ k. bytes_eq (f k) x)) (dedup_is is_same xs ys d) ∙ any_dedup x xs ∙ sym (list_any-IsPermutation (λ k. bytes_eq (f k) x) ws xs p) ∙ sym (has_any x ws)

  pub dedup_all : (P : List ℕ → Type 0) (ws xs ys : List X) → IsPermutation ws xs → IsFiltered (DiffersFromLast is_same) [] xs ys → All (λ k. P (f k)) ws → All (λ k. P (f k)) ys
  dedup_all P ws xs ys p d h = rw (dedup_is is_same xs ys d) (All-dedup is_same (λ k. P (f k)) xs (All-permutation (λ k. P (f k)) ws xs p h))

-- the names of the slots that lead somewhere
pub slot_texts : (x : List ℕ) (ss : List Slot) → has_text x (map (λ s. s.name) ss) ≡ is_some (slot_of ss x)
slot_texts x [] = refl
slot_texts x (s ∷ ss) = go (bytes_eq s.name x) (slot_texts x ss)
  where
    go : (b : Bool) → has_text x (map (λ s. s.name) ss) ≡ is_some (slot_of ss x) → b || has_text x (map (λ s. s.name) ss) ≡ is_some (if b then Some s.file else slot_of ss x)
    go true e = refl
    go false e = e
