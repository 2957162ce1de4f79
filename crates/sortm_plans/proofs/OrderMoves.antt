-- The numbers in order are the same numbers, and what the moves have of them.
use Rattle.std.proofs.Common.{◌≡◌, ◌++◌, ℕ, true, List, [], ◌∷◌, suc, length, map, refl, sym, ◌∙◌, ap, subst}
use Rattle.std.specs.Prelude.{ℤ, IsPermutation, Option, None}
use Rattle.std.specs.List.{zip}
use Rattle.std.specs.declared.cmp.Ordering.{Ordering}
use Rattle.std.proofs.lemmas.List.Sorted.{IsPermutation-map}
use Rattle.folder_files.specs.Deeds.{Deed}
use Rattle.folder_files.specs.declared.place.Place.{Place}
use Rattle.message_order.specs.Dates.{later}
use Rattle.message_order.specs.Order.{comes_before}
use Rattle.message_places.specs.Places.{AreDistinct, AreMsgNums, froms, is_in, slots}
use Rattle.message_places.specs.declared.moves.Move.{Move}
use Rattle.message_places.proofs.InOrder.{froms_distinct, froms_good, moves_permute, slot_in, slots_distinct, slots_good, suc_same}
use Rattle.message_places.proofs.Permuted.{same_distinct, same_good, same_many, same_members}
use Rattle.sortm_plans.specs.Keys.{date_key, text_key}
use Rattle.sortm_plans.specs.Ordered.{filled_behind, in_order, order_by_dates, order_by_texts, date_cmp, sorted, text_cmp}
use Rattle.sortm_plans.specs.SortMoves.{HaveRead, moves_by, order_by, read_next, read_none, read_on}
use Rattle.sortm_plans.specs.declared.job.SortKey.{SortKey}
use Rattle.sortm_plans.specs.declared.job.SortKey.TheVariants as key
use Rattle.sortm_plans.proofs.Sorted.{sorted_permutes}

in_order_permutes : {K : Type 0} (cmp : K → K → Ordering) (keyed : List (K × ℕ)) → IsPermutation (map (λ x. x.1) keyed) (in_order cmp keyed)
unfolding in_order
in_order_permutes cmp keyed = IsPermutation-map (λ x. x.1) keyed (sorted (comes_before cmp) keyed) (sorted_permutes (comes_before cmp) keyed)

seconds : {A : Type 0} (xs : List A) (ys : List ℕ) → length xs ≡ length ys → map (λ x. x.1) (zip xs ys) ≡ ys
seconds [] [] e = refl
seconds [] (y ∷ ys) e = cc
seconds (x ∷ xs) [] e = cc
seconds (x ∷ xs) (y ∷ ys) e = ap (λ l. y ∷ l) (seconds xs ys (suc_same (length xs) (length ys) e))

filled_many : (last : Option ℤ) (ds : List (Option ℤ)) → length (filled_behind last ds) ≡ length ds
filled_many last [] = refl
filled_many last (d ∷ ds) = ap suc (filled_many (later last d) ds)

mapped_many : {A B : Type 0} (f : A → B) (xs : List A) → length (map f xs) ≡ length xs
mapped_many f [] = refl
mapped_many f (x ∷ xs) = ap suc (mapped_many f xs)

-- messages in order are the same messages
pub order_permutes : (by : SortKey) (texts : List (List ℕ)) (numbers : List ℕ) → length texts ≡ length numbers → IsPermutation numbers (order_by by texts numbers)
order_permutes (key.Date field) texts numbers same =
    subst (λ l. IsPermutation l (order_by_dates (map (date_key field) texts) numbers)) (seconds (filled_behind None (map (date_key field) texts)) numbers (filled_many None (map (date_key field) texts) ∙ (mapped_many (date_key field) texts ∙ same)))
    (in_order_permutes date_cmp (zip (filled_behind None (map (date_key field) texts)) numbers))
order_permutes (key.Text field) texts numbers same =
    subst (λ l. IsPermutation l (order_by_texts (map (text_key field) texts) numbers)) (seconds (map (text_key field) texts) numbers (mapped_many (text_key field) texts ∙ same))
    (in_order_permutes text_cmp (zip (map (text_key field) texts) numbers))

-- one text was read for each number
one_more : {A : Type 0} (xs : List A) (x : A) → length (xs ++ x ∷ []) ≡ suc (length xs)
one_more [] x = refl
one_more (y ∷ xs) x = ap suc (one_more xs x)

pub read_many : (p : Place) (numbers : List ℕ) (texts : List (List ℕ)) (own : List Deed) → HaveRead p numbers texts own → length texts ≡ length numbers
read_many p _ _ _ read_none = refl
read_many p _ _ _ (read_next {numbers = numbers} {texts = texts} n {bytes = bytes} {own = own} is f) = one_more texts bytes ∙ (ap suc (read_many p numbers texts own f) ∙ sym (one_more numbers n))
read_many p _ _ _ (read_on {numbers = numbers} {texts = texts} {own = own} f) = read_many p numbers texts own f

-- the moves of different messages
module _ (by : SortKey) (texts : List (List ℕ)) (numbers : List ℕ) (many : length texts ≡ length numbers) (good : AreMsgNums numbers) (distinct : AreDistinct numbers) where
  abbrev order : List ℕ
  order = order_by by texts numbers

  abbrev ms : List Move
  ms = moves_by by texts numbers

  permutes : IsPermutation numbers order
  permutes = order_permutes by texts numbers many

  pub order_distinct : AreDistinct order
  order_distinct = same_distinct numbers order permutes distinct

  pub order_many : length order ≡ length numbers
  order_many = same_many numbers order permutes

  pub order_members : (k : ℕ) → is_in k order ≡ is_in k numbers
  order_members = same_members numbers order permutes

  pub takes_good : AreMsgNums (slots ms)
  takes_good = slots_good order numbers good

  pub takes_distinct : AreDistinct (slots ms)
  takes_distinct = slots_distinct order numbers distinct

  pub moving_good : AreMsgNums (froms ms)
  moving_good = froms_good order numbers (same_good numbers order permutes good)

  pub moving_distinct : AreDistinct (froms ms)
  moving_distinct = froms_distinct order numbers order_distinct

  -- just those are taken that move
  pub moving_taken : (k : ℕ) → is_in k (froms ms) ≡ is_in k (slots ms)
  moving_taken k = sym (moves_permute order numbers order_many order_distinct distinct order_members k)

  -- and these are some of the chosen
  pub taken_chosen : (k : ℕ) → is_in k (slots ms) ≡ true → is_in k numbers ≡ true
  taken_chosen k e = slot_in order numbers k e
