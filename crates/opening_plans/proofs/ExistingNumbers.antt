-- The numbers of a folder's messages, one held message after another.
use Rattle.std.proofs.Common.{◌≡◌, ◌<◌, ◌≤◌, ◌||◌, ◌+◌, ℕ, zero, suc, Bool, true, false, List, [], ◌∷◌, Option, length, drop, get_or, min, ◌⊎◌, inl, inr, refl, sym, ◌∙◌, ap, arith, nat_le}
use Rattle.std.proofs.lemmas.List.{drop_all}
use Rattle.std.proofs.lemmas.Bool.Decides.{nat_tests}
use Rattle.mh_sequences.specs.declared.run.Run.{Run}
use Rattle.mh_sequences.specs.Runs.{AreRuns, Numbers, has}
use Rattle.std.specs.Prelude.{IfOk, Result, Ok, Err}
use Rattle.mh_sequences.proofs.Same.{same_runs}
use Rattle.held_messages.specs.Settle.{Settled}
use Rattle.sequence_commits.specs.RunsOfAll.{runs_of_all}
use Rattle.sequence_commits.proofs.RunTests.{all_has, all_runs, none_outside}
use Rattle.held_messages.specs.declared.held.HeldPair.{HeldPair}
use Rattle.held_messages.specs.HeldPairs.{top_after}
use Rattle.step_plans.proofs.Rounds.{next}
use Rattle.opening_plans.specs.Existing.{are_tried, exists_in, is_between, is_tried, numbers_settled}

or_turned : (a b c : Bool) → (a || b) || c ≡ a || (b || c)
or_turned true b c = refl
or_turned false b c = refl

-- those of one more held message are added
pub one_tried : (l : List HeldPair) (ends : List (Option ℕ)) (i : ℕ) (h : HeldPair) (end : Option ℕ) (top after n : ℕ) (now before : Bool) → i < length l → i < length ends → h ≡ get_or l i h → end ≡ get_or ends i end
    → after ≡ top_after end top → now ≡ (is_tried h top end n || before)
    → (are_tried (drop (i + 1) l) (drop (i + 1) ends) after n || now) ≡ (are_tried (drop i l) (drop i ends) top n || before)
unfolding are_tried
one_tried l ends i h end top after n now before lt le is at e has_ =
    (λ j. are_tried (drop (i + 1) l) (drop (i + 1) ends) (e j) n || has_ j)
    ∙ (sym (or_turned (are_tried (drop (i + 1) l) (drop (i + 1) ends) (top_after end top) n) (is_tried h top end n) before)
    ∙ sym (λ j. are_tried (next l i h lt is j) (next ends i end le at j) top n || before))

either : (a b i : ℕ) → min a b ≤ i → (a ≤ i) ⊎ (b ≤ i)
either a b i h = grind (arith, nat_tests)

none_tried : (hs : List HeldPair) (top n : ℕ) → are_tried hs [] top n ≡ false
unfolding are_tried
none_tried [] top n = refl
none_tried (h ∷ hs) top n = refl

no_pairs : (ends : List (Option ℕ)) (top n : ℕ) → are_tried [] ends top n ≡ false
unfolding are_tried
no_pairs ends top n = refl

-- all were added
pub all_tried : (l : List HeldPair) (ends : List (Option ℕ)) (i top n : ℕ) (now : Bool) → min (length l) (length ends) ≤ i → (are_tried (drop i l) (drop i ends) top n || now) ≡ now
all_tried l ends i top n now le = ap (λ b. b || now) (go (either (length l) (length ends) i le))
  where
    go : (length l ≤ i) ⊎ (length ends ≤ i) → are_tried (drop i l) (drop i ends) top n ≡ false
    go (inl e) = ap (λ z. are_tried z (drop i ends) top n) (drop_all i l e) ∙ no_pairs (drop i ends) top n
    go (inr e) = ap (λ z. are_tried (drop i l) z top n) (drop_all i ends e) ∙ none_tried (drop i l) top n

-- no number is in a range that ends before it begins
pub nothing_between : (first last n : ℕ) → last < first → is_between first last n ≡ false
nothing_between first last n lt = grind (arith, nat_tests, lt)

small : (n : ℕ) → nat_le (suc n) 999999 ≡ true → suc n ≤ 999999
small n e = grind (arith, nat_tests, e)

large : (n : ℕ) → nat_le (suc n) 999999 ≡ false → suc n ≤ 999999 → ⊥
large n e h = grind (arith, nat_tests, e, h)

pub in_range_or : (n : ℕ) → ((1 ≤ n) × (n ≤ 999999)) ⊎ (1 ≤ n → n ≤ 999999 → ⊥)
in_range_or zero = inr (λ l h. omega (arith, l))
in_range_or (suc n) = go (nat_le (suc n) 999999) refl
  where
    go : (b : Bool) → nat_le (suc n) 999999 ≡ b → ((1 ≤ suc n) × (suc n ≤ 999999)) ⊎ (1 ≤ suc n → suc n ≤ 999999 → ⊥)
    go true e = inl (omega arith, small n e)
    go false e = inr (λ l h. large n e h)

-- one set of numbers has one list of runs
pub all_settled : (run : ℕ) (s : Settled) (runs : List Run) → AreRuns runs → ((n : ℕ) → has runs n ≡ exists_in run s n) → runs ≡ numbers_settled run s
unfolding numbers_settled
all_settled run s runs valid all = same_runs runs (runs_of_all (exists_in run s)) valid (all_runs (exists_in run s)) same
  where
    same : (n : ℕ) → has runs n ≡ has (runs_of_all (exists_in run s)) n
    same n = elim (in_range_or n) [
      | inl l ↦ all n ∙ sym (all_has (exists_in run s) n l.0 l.1)
      | inr o ↦ none_outside runs n valid o ∙ sym (none_outside (runs_of_all (exists_in run s)) n (all_runs (exists_in run s)) o)
    ]

pub all_numbers : (run : ℕ) (s : Settled) (pile : List Run) {E : Type 0} (made : Result Numbers E) → ((n : ℕ) → has pile n ≡ exists_in run s n) → IfOk made (λ t. (n : ℕ) → has t.runs n ≡ has pile n) → IfOk made (λ t. AreRuns t.runs) → IfOk made (λ t. t.runs ≡ numbers_settled run s)
all_numbers run s pile (Ok t) is all valid = all_settled run s t.runs valid (λ n. all n ∙ is n)
all_numbers run s pile (Err e) is all valid = tt
