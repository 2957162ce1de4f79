-- Which numbers have a message after settling, and what settling gives in cases.
use Rattle.std.proofs.Common.{◌≡◌, ◌⊎◌, inl, inr, ◌&&◌, ◌||◌, ℕ, ◌+◌, ◌==◌, ◌<◌, ◌≤◌, ◌^◌, max, arith, subst, Bool, true, false, List, [], ◌∷◌, Option, Some, None, refl, sym, ◌∙◌, ap, nat_lt}
use Rattle.std.specs.Prelude.{is_some, not, if◌then◌else◌}
use Rattle.std.proofs.lemmas.Bool.Decides.{nat_tests, Decides-ltb, Decides-eqb}
use Rattle.file_plans.specs.Mailboxes.{Folder}
use Rattle.folder_files.proofs.Names.{both, or_left, or_last, or_case, num_itself}
use Rattle.held_messages.specs.Highest.{IsTop}
use Rattle.held_messages.specs.declared.held.HeldPair.{HeldPair}
use Rattle.held_messages.specs.HeldPairs.{is_pair, has_pair, AreHeld, home_of, top_after, homes, is_end, given_home, settled, is_in_ends, top_all}
use Rattle.held_messages.proofs.ListedPairs.{IsPair, ArePairs, IsApart, AreApart, same_name}
use Rattle.held_messages.proofs.Homecoming.{AreEnds}

abbrev pub AllHeld : Folder → List HeldPair → Type 0
AllHeld f [] = Unit {0}
AllHeld f (h ∷ hs) = (is_some (f.held h.run h.number) ≡ true) × AllHeld f hs

still_held : (f : Folder) (h : HeldPair) → IsPair h → (m : ℕ) (hs : List HeldPair) → ArePairs hs → IsApart h hs → AllHeld f hs → AllHeld (given_home h m f) hs
still_held f h is m [] pairs apart all = tt
still_held f h is m (k ∷ ks) pairs apart all = (rw (sym (same_name h is k.run k.number pairs.0.0 pairs.0.1) ∙ apart.0) all.0, still_held f h is m ks pairs.1 apart.1 all.1)

by_ends : (m k : ℕ) (o u : Option (List ℕ)) (b : Bool) → is_some o ≡ true → is_some (if m == k then o else u) || b ≡ is_some u || ((m == k) || b)
by_ends m k o u b some = go (m == k)
  where
    left : (v : Bool) → true ≡ v || true
    left true = refl
    left false = refl

    go : (v : Bool) → is_some (if v then o else u) || b ≡ is_some u || (v || b)
    go true = ap (λ x. x || b) some ∙ left (is_some u)
    go false = refl

-- those that had one, and those where a held message stood
pub settled_numbers : (f : Folder) (hs : List HeldPair) → ArePairs hs → AreApart hs → AllHeld f hs → (ends : List (Option ℕ)) → AreEnds hs ends → (k : ℕ) → is_some ((settled f hs ends).messages k) ≡ is_some (f.messages k) || is_in_ends k ends
unfolding settled is_in_ends
settled_numbers f [] pairs apart all [] ok k = none (is_some (f.messages k))
  where
    none : (b : Bool) → b ≡ b || false
    none true = refl
    none false = refl
settled_numbers f [] pairs apart all (end ∷ ends) ok k = absurd ok
settled_numbers f (h ∷ hs) pairs apart all [] ok k = absurd ok
settled_numbers f (h ∷ hs) pairs apart all (None ∷ ends) ok k = settled_numbers f hs pairs.1 apart.1 all.1 ends ok.1 k
settled_numbers f (h ∷ hs) pairs apart all (Some m ∷ ends) ok k =
    settled_numbers (given_home h m f) hs pairs.1 apart.1 (still_held f h pairs.0 m hs pairs.1 apart.0 all.1) ends ok.1 k ∙ by_ends m k (f.held h.run h.number) (f.messages k) (is_in_ends k ends) all.0

-- what a folder holds aside is there
all_held : (f : Folder) (ks hs : List HeldPair) → ((r n : ℕ) → has_pair r n hs ≡ true → is_some (f.held r n) ≡ true) → ((r n : ℕ) → has_pair r n ks ≡ true → has_pair r n hs ≡ true) → AllHeld f ks
all_held f [] hs all sub = tt
all_held f (k ∷ ks) hs all sub = (
  all k.run k.number (sub k.run k.number (or_left (is_pair k.run k.number k) (has_pair k.run k.number ks) (rw (num_itself k.run, num_itself k.number) refl))),
  all_held f ks hs all (λ r n e. sub r n (or_last (is_pair r n k) (has_pair r n ks) e)),
)

pub folder_all_held : (own : ℕ) (f : Folder) (hs : List HeldPair) → AreHeld own f hs → AllHeld f hs
folder_all_held own f hs a = all_held f hs hs there (λ r n e. e)
  where
    there : (r n : ℕ) → has_pair r n hs ≡ true → is_some (f.held r n) ≡ true
    there r n e = (both (nat_lt r (2 ^ 128)) (is_some (f.held r n)) (both (not (r == own)) (nat_lt r (2 ^ 128) && is_some (f.held r n)) (sym (a.all r n) ∙ e)).1).1

-- cases: 1 and 3 are there, and two runs hold 2
abbrev of_five : HeldPair
of_five = record { run = 5; number = 2 }

abbrev of_nine : HeldPair
of_nine = record { run = 9; number = 2 }

two_of_two : homes (λ k. (k == 1) || (k == 3)) 3 (of_five ∷ (of_nine ∷ [])) ≡ Some 2 ∷ (Some 4 ∷ [])
unfolding homes
two_of_two = refl

-- the last number is there, and so is 2: the first stays held, and one of a free number goes to it
at_the_end : homes (λ k. (k == 2) || (k == 999999)) 999999 (of_five ∷ (record { run = 9; number = 7 } ∷ [])) ≡ None ∷ (Some 7 ∷ [])
unfolding homes
at_the_end = refl

-- the highest number after settling, alone
pub record TopOf (taken : ℕ → Bool) (top : ℕ) : Type 0 where
  pub above : (k : ℕ) → taken k ≡ true → k ≤ top
  pub attained : (top ≡ 0) ⊎ (taken top ≡ true)

pick : (m top : ℕ) → (max m top ≡ m) ⊎ (max m top ≡ top)
pick m top = grind (arith, nat_tests)

top_end : (taken : ℕ → Bool) (top m : ℕ) → TopOf taken top → TopOf (λ k. (m == k) || taken k) (max m top)
top_end taken top m t = record { above = above; attained = elim (pick m top) [ inl e ↦ inr (ap (λ x. (m == x) || taken x) e ∙ or_left (m == m) (taken m) (num_itself m)) | inr e ↦ by e t.attained ] }
  where
    above : (k : ℕ) → (m == k) || taken k ≡ true → k ≤ max m top
    above k e = elim (or_case (m == k) (taken k) e) [
      | inl f ↦ (let same : m ≡ k = (Decides-eqb m k).0 f in omega (arith, same))
      | inr f ↦ (let l : k ≤ top = t.above k f in omega (arith, l))
    ]

    by : max m top ≡ top → (top ≡ 0) ⊎ (taken top ≡ true) → (max m top ≡ 0) ⊎ ((m == max m top) || taken (max m top) ≡ true)
    by e (inl f) = inl (e ∙ f)
    by e (inr f) = inr (ap (λ x. (m == x) || taken x) e ∙ or_last (m == top) (taken top) f)

pub top_step : (taken : ℕ → Bool) (top n : ℕ) → TopOf taken top → top ≤ 999999 → TopOf (λ k. is_end k (home_of (taken n) top n) || taken k) (top_after (home_of (taken n) top n) top)
top_step taken top n t small = go (taken n) (nat_lt top 999999) refl
  where
    go : (a b : Bool) → nat_lt top 999999 ≡ b → TopOf (λ k. is_end k (if a then (if b then Some (top + 1) else None) else Some n) || taken k) (top_after (if a then (if b then Some (top + 1) else None) else Some n) top)
    go false b e = top_end taken top n t
    go true true e = top_end taken top (top + 1) t
    go true false e = let same : top ≡ 999999 = grind (arith, nat_tests, e, small) in subst (TopOf taken) same t

pub end_small : (a : Bool) (top n : ℕ) → n ≤ 999999 → top ≤ 999999 → top_after (home_of a top n) top ≤ 999999
end_small false top n l small = omega (arith, l, small)
end_small true top n l small = go (nat_lt top 999999) refl
  where
    go : (b : Bool) → nat_lt top 999999 ≡ b → top_after (if b then Some (top + 1) else None) top ≤ 999999
    go true e = let lt : top < 999999 = (Decides-ltb top 999999).0 e in omega (arith, lt)
    go false e = omega arith

turned_or : (a b c : Bool) → a || (b || c) ≡ (b || a) || c
turned_or true true c = refl
turned_or true false c = refl
turned_or false true c = refl
turned_or false false c = refl

pub tops : (hs : List HeldPair) → ArePairs hs → (taken : ℕ → Bool) (top : ℕ) → TopOf taken top → top ≤ 999999 → TopOf (λ k. is_in_ends k (homes taken top hs) || taken k) (top_all (homes taken top hs) top)
unfolding homes is_in_ends top_all
tops [] pairs taken top t small = t
tops (h ∷ hs) pairs taken top t small =
    let e = home_of (taken h.number) top h.number in
    let ends = homes (λ k. is_end k e || taken k) (top_after e top) hs in
    subst (λ f. TopOf f (top_all ends (top_after e top))) (λ i. λ k. turned_or (is_in_ends k ends) (is_end k e) (taken k) i)
    (tops hs pairs.1 (λ k. is_end k e || taken k) (top_after e top) (top_step taken top h.number t small) (end_small (taken h.number) top h.number pairs.0.1.1 small))

or_swapped : (a b : Bool) → a || b ≡ b || a
or_swapped true true = refl
or_swapped true false = refl
or_swapped false true = refl
or_swapped false false = refl

-- so what is put next, alone, stands at one above it
pub settled_top : (f : Folder) (hs : List HeldPair) → ArePairs hs → AreApart hs → AllHeld f hs → (top : ℕ) → top ≤ 999999 → IsTop f top
    → AreEnds hs (homes (λ k. is_some (f.messages k)) top hs) → IsTop (settled f hs (homes (λ k. is_some (f.messages k)) top hs)) (top_all (homes (λ k. is_some (f.messages k)) top hs) top)
settled_top f hs pairs apart all top small is ok = record { above = λ k e. t.above k (or_swapped (is_in_ends k ends) (taken k) ∙ (sym (numbers k) ∙ e)); attained = last t.attained }
  where
    taken : ℕ → Bool
    taken k = is_some (f.messages k)

    ends : List (Option ℕ)
    ends = homes taken top hs

    numbers : (k : ℕ) → is_some ((settled f hs ends).messages k) ≡ taken k || is_in_ends k ends
    numbers k = settled_numbers f hs pairs apart all ends ok k

    t : TopOf (λ k. is_in_ends k ends || taken k) (top_all ends top)
    t = tops hs pairs taken top (record { above = is.above; attained = is.attained }) small

    last : (top_all ends top ≡ 0) ⊎ (is_in_ends (top_all ends top) ends || taken (top_all ends top) ≡ true) → (top_all ends top ≡ 0) ⊎ (is_some ((settled f hs ends).messages (top_all ends top)) ≡ true)
    last (inl e) = inl e
    last (inr e) = inr (numbers (top_all ends top) ∙ (or_swapped (taken (top_all ends top)) (is_in_ends (top_all ends top) ends) ∙ e))
