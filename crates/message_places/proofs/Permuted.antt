-- Numbers in another order, and messages that stand in the order of their keys.
use Rattle.std.proofs.Common.{◌≡◌, ◌||◌, ◌+◌, ◌≤◌, ◌==◌, ℕ, Bool, true, false, List, [], ◌∷◌, refl, sym, ◌∙◌, ap, subst, arith, length, nat_lt}
use Rattle.std.specs.Prelude.{IsPermutation, is_some, sum_by, if◌then◌else◌}
use Rattle.std.specs.declared.cmp.Ordering.{Ordering}
use Rattle.std.proofs.lemmas.Bool.Decides.{nat_tests}
use Rattle.std.proofs.lemmas.List.Sorted.{IsPermutation-map, length_permutation, sum_by-IsPermutation}
use Rattle.std.proofs.lemmas.List.Sums.{sum_by-cons}
use Rattle.mh_base.specs.Numbers.{IsMsgNum}
use Rattle.file_plans.specs.Mailboxes.{Folder}
use Rattle.folder_files.proofs.Names.{num_itself, num_same}
use Rattle.message_order.specs.Order.{AreInOrder}
use Rattle.message_places.specs.Order.{StandInOrder, moves_of, numbers_of}
use Rattle.message_places.specs.Places.{AreDistinct, AreMsgNums, froms, is_in, rearranged, slots}
use Rattle.message_places.proofs.InOrder.{from_in, moves_permute, stand_in_order}
use Rattle.message_places.proofs.NumberLists.{in_good, in_head, in_tail}
use Rattle.message_places.proofs.Standing.{same_numbers}

-- how often a number stands in a list
abbrev one_if : ℕ → ℕ → ℕ
one_if k n = if n == k then 1 else 0

abbrev count : ℕ → List ℕ → ℕ
count k ns = sum_by (one_if k) ns

count_more : (k n : ℕ) (ns : List ℕ) → count k (n ∷ ns) ≡ one_if k n + count k ns
count_more k n ns = sum_by-cons (one_if k) n ns

in_counted : (k : ℕ) (ns : List ℕ) → is_in k ns ≡ nat_lt 0 (count k ns)
in_counted k [] = refl
in_counted k (n ∷ ns) = go (n == k) (count k ns) (in_counted k ns) ∙ ap (nat_lt 0) (sym (count_more k n ns))
  where
    some : (c : ℕ) → true ≡ nat_lt 0 (1 + c)
    some c = grind (arith, nat_tests)

    go : (b : Bool) (c : ℕ) → is_in k ns ≡ nat_lt 0 c → (b || is_in k ns) ≡ nat_lt 0 ((if b then 1 else 0) + c)
    go true c e = some c
    go false c e = e ∙ ap (nat_lt 0) (omega arith)

none_counted : (k : ℕ) (ns : List ℕ) → is_in k ns ≡ false → count k ns ≡ 0
none_counted k ns e = zero_so (count k ns) (sym (in_counted k ns) ∙ e)
  where
    zero_so : (c : ℕ) → nat_lt 0 c ≡ false → c ≡ 0
    zero_so c e = grind (arith, nat_tests)

distinct_counted : (ns : List ℕ) → AreDistinct ns → (k : ℕ) → count k ns ≤ 1
distinct_counted [] d k = omega arith
distinct_counted (n ∷ ns) d k = subst (λ c. c ≤ 1) (sym (count_more k n ns)) (go (n == k) refl (distinct_counted ns d.1 k))
  where
    go : (b : Bool) → (n == k) ≡ b → count k ns ≤ 1 → (if b then 1 else 0) + count k ns ≤ 1
    go true e few = let z : count k ns ≡ 0 = none_counted k ns (subst (λ j. is_in j ns ≡ false) (num_same n k e) d.0) in omega (arith, z)
    go false e few = omega (arith, few)

counted_distinct : (ns : List ℕ) → ((k : ℕ) → count k ns ≤ 1) → AreDistinct ns
counted_distinct [] f = tt
counted_distinct (n ∷ ns) f = (none, counted_distinct ns (λ k. let c = count_more k n ns in omega (arith, c, f k)))
  where
    none : is_in n ns ≡ false
    none =
        let c : count n (n ∷ ns) ≡ 1 + count n ns = count_more n n ns ∙ ap (λ b. (if b then 1 else 0) + count n ns) (num_itself n) in
        let z : count n ns ≡ 0 = omega (arith, c, f n) in
        in_counted n ns ∙ ap (nat_lt 0) z

all_good : (ns : List ℕ) → ((k : ℕ) → is_in k ns ≡ true → IsMsgNum k) → AreMsgNums ns
all_good [] f = tt
all_good (n ∷ ns) f = (f n (in_head n ns), all_good ns (λ k e. f k (in_tail n k ns e)))

-- the same numbers in another order
module _ (xs ys : List ℕ) (same : IsPermutation xs ys) where
  same_count : (k : ℕ) → count k ys ≡ count k xs
  same_count k = sum_by-IsPermutation (one_if k) xs ys same

  pub same_members : (k : ℕ) → is_in k ys ≡ is_in k xs
  same_members k = in_counted k ys ∙ ap (nat_lt 0) (same_count k) ∙ sym (in_counted k xs)

  pub same_distinct : AreDistinct xs → AreDistinct ys
  same_distinct d = counted_distinct ys (λ k. subst (λ c. c ≤ 1) (sym (same_count k)) (distinct_counted xs d k))

  pub same_good : AreMsgNums xs → AreMsgNums ys
  same_good ok = all_good ys (λ k e. in_good xs ok k (sym (same_members k) ∙ e))

  pub same_many : length ys ≡ length xs
  same_many = length_permutation xs ys same

-- the numbers of messages in the order of their keys, and the numbers that they have as slots
module _ {K : Type 0} (cmp : K → K → Ordering) (keyed : List (K × ℕ)) (numbers : List ℕ) (o : AreInOrder cmp keyed numbers) where
  abbrev chosen : List ℕ
  chosen = numbers_of keyed

  pub order_permutes : IsPermutation chosen numbers
  order_permutes = subst (IsPermutation chosen) (sym o.are) (IsPermutation-map (λ x. x.1) keyed o.ordered o.same)

  -- the slots of what moves are its old numbers
  pub order_moves : AreDistinct chosen → (k : ℕ) → is_in k (slots (moves_of numbers chosen)) ≡ is_in k (froms (moves_of numbers chosen))
  order_moves d = moves_permute numbers chosen (same_many chosen numbers order_permutes) (same_distinct chosen numbers order_permutes d) d (same_members chosen numbers order_permutes)

  -- the messages stand at the slots in the order of their keys
  pub order_stands : (f : Folder) → AreDistinct chosen → StandInOrder f.messages (rearranged (moves_of numbers chosen) (slots (moves_of numbers chosen)) f).messages numbers chosen
  order_stands f d = stand_in_order f numbers chosen (same_distinct chosen numbers order_permutes d) d

  -- and just the same numbers have a message
  pub order_same : (f : Folder) → AreDistinct chosen → ((k : ℕ) → is_in k chosen ≡ true → is_some (f.messages k) ≡ true)
      → (k : ℕ) → is_some ((rearranged (moves_of numbers chosen) (slots (moves_of numbers chosen)) f).messages k) ≡ is_some (f.messages k)
  order_same f d stand = same_numbers f (moves_of numbers chosen) (order_moves d) (λ k e. stand k (sym (same_members chosen numbers order_permutes k) ∙ from_in numbers chosen k e))
