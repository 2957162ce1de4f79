-- Alone, each number to which a held message was linked in vain has a message.
use Rattle.std.proofs.Common.{◌≡◌, ◌≤◌, ◌||◌, ◌+◌, ◌==◌, ℕ, Bool, true, false, max, List, [], ◌∷◌, Option, Some, None, refl, sym, ◌∙◌, ap, arith, nat_lt}
use Rattle.std.specs.Prelude.{unwrap_or, if◌then◌else◌}
use Rattle.std.proofs.lemmas.Bool.Decides.{nat_tests}
use Rattle.held_messages.specs.declared.held.HeldPair.{HeldPair}
use Rattle.held_messages.specs.HeldPairs.{home_of, homes, is_end, is_in_ends, top_after}
use Rattle.held_messages.proofs.Numbers.{TopOf, end_small, top_step}
use Rattle.held_messages.proofs.ListedPairs.{ArePairs}
use Rattle.opening_plans.specs.Existing.{are_tried, is_between, is_tried}

-- one message: what was tried is its end, or was there
tried_one : (taken : ℕ → Bool) (top n k : ℕ) → TopOf taken top → n ≤ 999999 → top ≤ 999999
    → (is_between (max n top + 1) (unwrap_or (home_of (taken n) top n) 999999) k || is_between n n k) || taken k ≡ is_end k (home_of (taken n) top n) || taken k
tried_one taken top n k t small low = go (taken n) refl (nat_lt top 999999) refl
  where
    self : taken n ≡ true → is_between n n k || taken k ≡ taken k
    self e = by (is_between n n k) refl
      where
        by : (b : Bool) → is_between n n k ≡ b → b || taken k ≡ taken k
        by true f = let same : n ≡ k = grind (arith, nat_tests, f) in sym (ap taken (sym same) ∙ e)
        by false f = refl

    go : (a : Bool) → taken n ≡ a → (b : Bool) → nat_lt top 999999 ≡ b
        → (is_between (max n top + 1) (unwrap_or (if a then (if b then Some (top + 1) else None) else Some n) 999999) k || is_between n n k) || taken k ≡ is_end k (if a then (if b then Some (top + 1) else None) else Some n) || taken k
    go false e b f = ap (λ z. z || taken k) (free n top k)
      where
        free : (n top k : ℕ) → is_between (max n top + 1) n k || is_between n n k ≡ (n == k)
        free n top k = grind (arith, nat_tests)
    go true e true f = above
      where
        le : n ≤ top
        le = t.above n e

        one : (n top k : ℕ) → n ≤ top → is_between (max n top + 1) (top + 1) k ≡ (top + 1 == k)
        one n top k le = grind (arith, nat_tests, le)

        turned : (a b c : Bool) → (b || c ≡ c) → (a || b) || c ≡ a || c
        turned true b c g = refl
        turned false b c g = g

        above : (is_between (max n top + 1) (top + 1) k || is_between n n k) || taken k ≡ (top + 1 == k) || taken k
        above = turned (is_between (max n top + 1) (top + 1) k) (is_between n n k) (taken k) (self e) ∙ ap (λ z. z || taken k) (one n top k le)
    go true e false f = none
      where
        le : n ≤ top
        le = t.above n e

        nothing : (n top k : ℕ) → nat_lt top 999999 ≡ false → is_between (max n top + 1) 999999 k ≡ false
        nothing n top k f = grind (arith, nat_tests, f)

        none : (is_between (max n top + 1) 999999 k || is_between n n k) || taken k ≡ taken k
        none = ap (λ z. (z || is_between n n k) || taken k) (nothing n top k f) ∙ self e

-- all of them
pub tried_alone : (hs : List HeldPair) → ArePairs hs → (taken : ℕ → Bool) (top : ℕ) → TopOf taken top → top ≤ 999999 → (k : ℕ)
    → are_tried hs (homes taken top hs) top k || taken k ≡ taken k || is_in_ends k (homes taken top hs)
unfolding are_tried homes is_in_ends
tried_alone [] pairs taken top t low k = none (taken k)
  where
    none : (b : Bool) → b ≡ b || false
    none true = refl
    none false = refl
tried_alone (h ∷ hs) pairs taken top t low k =
    turned (are_tried hs ends next k) (is_tried h top end k) (taken k)
    ∙ (ap (λ z. are_tried hs ends next k || z) (tried_one taken top h.number k t pairs.0.1.1 low)
    ∙ (tried_alone hs pairs.1 (λ j. is_end j end || taken j) next (top_step taken top h.number t low) (end_small (taken h.number) top h.number pairs.0.1.1 low) k
    ∙ last (is_end k end) (taken k) (is_in_ends k ends)))
  where
    end : Option ℕ
    end = home_of (taken h.number) top h.number

    next : ℕ
    next = top_after end top

    ends : List (Option ℕ)
    ends = homes (λ j. is_end j end || taken j) next hs

    turned : (a b c : Bool) → (a || b) || c ≡ a || (b || c)
    turned true b c = refl
    turned false b c = refl

    last : (a b c : Bool) → (a || b) || c ≡ b || (a || c)
    last true true c = refl
    last true false c = refl
    last false b c = refl
