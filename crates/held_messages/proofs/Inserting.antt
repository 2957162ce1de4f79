-- Pairs found by halving, and put among others in order.
use Rattle.std.proofs.Common.{◌≡◌, ◌||◌, ◌==◌, ◌&&◌, ◌+◌, ◌<◌, ◌≤◌, ◌++◌, ℕ, zero, suc, Bool, true, false, List, [], ◌∷◌, Option, Some, None, length, take, drop, get_or, refl, sym, ◌∙◌, ap, subst, arith, nat_lt, drop-cons}
use Rattle.std.specs.Prelude.{not, if◌then◌else◌}
use Rattle.std.specs.List.{prefix_len, list_any, insert}
use Rattle.std.specs.List.Sorted.{IsPartitionPoint, IsPartitionedBy, IsPermutation}
use Rattle.std.proofs.lemmas.Bool.Decides.{nat_tests}
use Rattle.std.proofs.lemmas.List.Sums.{prefix_len_is}
use Rattle.std.proofs.lemmas.List.Sorted.{list_any-IsPermutation}
use Rattle.mh_base.specs.Entries.{kind_of}
use Rattle.mh_base.specs.declared.entry.Entry.{Entry}
use Rattle.mh_base.specs.declared.entry.Entry.TheVariants.{Number, Backup, Held, Temp, Sequences, LockFile, Other}
use Rattle.held_messages.specs.declared.held.HeldPair.{HeldPair}
use Rattle.held_messages.specs.HeldPairs.{is_pair, has_pair, is_before, AreInOrder, inserted, with_kind, held_pairs, pair_in, alone, is_at}
use Rattle.held_messages.proofs.ListedPairs.{earlier, earlier_on, has_inserted, ordered, pairs_ordered}
use Rattle.held_messages.proofs.Unique.{one_list, rest_ordered, without_next}

before_at : (a : HeldPair) (hs : List HeldPair) → AreInOrder (a ∷ hs) → (j : ℕ) (d : HeldPair) → j < length hs → is_before a (get_or hs j d) ≡ true
before_at a [] o j d lt = absurd (omega arith)
before_at a (k ∷ ks) o zero d lt = o.0
before_at a (k ∷ ks) o (suc j) d lt = before_at a ks (without_next a k ks o) j d (omega arith)

-- none that stands before a pair stands behind one that doesn't
pub pairs_part : (h : HeldPair) (hs : List HeldPair) → AreInOrder hs → IsPartitionedBy (λ k. is_before k h) hs
pairs_part h [] o i j d le lt e = absurd (omega arith)
pairs_part h (k ∷ ks) o zero zero d le lt e = e
pairs_part h (k ∷ ks) o zero (suc j) d le lt e =
    let x : HeldPair = get_or ks j d in
    earlier_on k.number k.run x.number x.run h.number h.run (before_at k ks o j d (omega arith)) e
pairs_part h (k ∷ ks) o (suc i) zero d le lt e = absurd (omega arith)
pairs_part h (k ∷ ks) o (suc i) (suc j) d le lt e = pairs_part h ks (rest_ordered k ks o) i j d (omega arith) (omega arith) e

pub point_of_pairs : (h : HeldPair) (hs : List HeldPair) (i : ℕ) → i ≤ length hs → IsPartitionPoint (λ k. is_before k h ≡ true) (λ k. is_before k h ≡ false) hs i → i ≡ prefix_len (λ k. is_before k h) hs
point_of_pairs h [] i le point = omega arith
point_of_pairs h (k ∷ ks) i le point = sym (prefix_len_is (λ v. is_before v h) (k ∷ ks) i k le (λ j lt. point.0 j k (omega arith) lt) (λ lt. point.1 i k (omega arith) lt))

-- what stands at the place
pub at_some : (hs : List HeldPair) (i : ℕ) (h k : HeldPair) → i < length hs → k ≡ get_or hs i k → not (is_before h k) ≡ is_at hs i h
unfolding is_at
at_some [] i h k lt e = absurd (omega arith)
at_some (x ∷ xs) zero h k lt e = ap (λ z. not (is_before h z)) e
at_some (x ∷ xs) (suc i) h k lt e = at_some xs i h k (omega arith) e

pub at_none : (hs : List HeldPair) (i : ℕ) (h : HeldPair) → length hs ≤ i → false ≡ is_at hs i h
unfolding is_at
at_none [] i h le = refl
at_none (x ∷ xs) zero h le = absurd (omega arith)
at_none (x ∷ xs) (suc i) h le = at_none xs i h (omega arith)

turned : (an ar bn br : ℕ) → earlier an ar bn br ≡ true → earlier bn br an ar ≡ false
turned an ar bn br e = grind (arith, nat_tests)

not_true : (b : Bool) → not b ≡ true → b ≡ false
not_true true e = cc
not_true false e = refl

not_false : (b : Bool) → not b ≡ false → b ≡ true
not_false true e = refl
not_false false e = cc

-- at the place that was found by halving it is put, where it doesn't stand there
pub inserted_there : (h : HeldPair) (hs : List HeldPair) (i : ℕ) → i ≡ prefix_len (λ k. is_before k h) hs → is_at hs i h ≡ true → inserted h hs ≡ hs
unfolding inserted is_at
inserted_there h [] i e there = cc
inserted_there h (k ∷ ks) i e there = go (is_before k h) refl (λ j f g. inserted_there h ks j f g) i e there
  where
    go : (u : Bool) → is_before k h ≡ u → ((j : ℕ) → j ≡ prefix_len (λ k. is_before k h) ks → is_at ks j h ≡ true → inserted h ks ≡ ks) → (i : ℕ) → i ≡ (if u then 1 + prefix_len (λ k. is_before k h) ks else 0) → is_at (k ∷ ks) i h ≡ true → (if is_before h k then h ∷ (k ∷ ks) else (if u then k ∷ inserted h ks else k ∷ ks)) ≡ k ∷ ks
    go true f more zero e there = absurd (omega (arith, e))
    go true f more (suc j) e there = rw (turned k.number k.run h.number h.run f) (ap (λ l. k ∷ l) (more j (omega (arith, e)) there))
    go false f more zero e there = rw (not_true (is_before h k) there) refl
    go false f more (suc j) e there = absurd (omega (arith, e))

pub inserted_new : (h : HeldPair) (hs : List HeldPair) (i : ℕ) → i ≡ prefix_len (λ k. is_before k h) hs → is_at hs i h ≡ false → insert hs i h ≡ inserted h hs
unfolding inserted is_at
inserted_new h [] i e new = let z : i ≡ 0 = e in rw z refl
inserted_new h (k ∷ ks) i e new = go (is_before k h) refl (λ j f g. inserted_new h ks j f g) i e new
  where
    go : (u : Bool) → is_before k h ≡ u → ((j : ℕ) → j ≡ prefix_len (λ k. is_before k h) ks → is_at ks j h ≡ false → insert ks j h ≡ inserted h ks) → (i : ℕ) → i ≡ (if u then 1 + prefix_len (λ k. is_before k h) ks else 0) → is_at (k ∷ ks) i h ≡ false → insert (k ∷ ks) i h ≡ (if is_before h k then h ∷ (k ∷ ks) else (if u then k ∷ inserted h ks else k ∷ ks))
    go true f more zero e new = absurd (omega (arith, e))
    go true f more (suc j) e new = rw (turned k.number k.run h.number h.run f) (ap (λ l. k ∷ l) (more j (omega (arith, e)) new))
    go false f more zero e new = rw (not_false (is_before h k) new) refl
    go false f more (suc j) e new = absurd (omega (arith, e))

-- which pairs these are
or_group : (a b c : Bool) → (a || b) || c ≡ a || (b || c)
or_group true b c = refl
or_group false b c = refl

or_none : (a : Bool) → a || false ≡ a
or_none true = refl
or_none false = refl

or_over : (a b c : Bool) → (a || b) || c ≡ b || (a || c)
or_over true true c = refl
or_over true false c = refl
or_over false b c = refl

pub has_append : (r n : ℕ) (hs ks : List HeldPair) → has_pair r n (hs ++ ks) ≡ has_pair r n hs || has_pair r n ks
has_append r n [] ks = refl
has_append r n (h ∷ hs) ks = ap (λ b. is_pair r n h || b) (has_append r n hs ks) ∙ sym (or_group (is_pair r n h) (has_pair r n hs) (has_pair r n ks))

has_kind_alone : (own r n : ℕ) (e : Entry) (hs : List HeldPair) → has_pair r n (with_kind own e hs) ≡ has_pair r n (alone (pair_in own e)) || has_pair r n hs
has_kind_alone own r n (Held o m) hs = go (o == own)
  where
    go : (b : Bool) → has_pair r n (if b then hs else inserted (record { run = o; number = m }) hs) ≡ has_pair r n (alone (if b then None else Some (record { run = o; number = m }))) || has_pair r n hs
    go true = refl
    go false = has_inserted r n (record { run = o; number = m }) hs ∙ ap (λ b. b || has_pair r n hs) (sym (or_none (is_pair r n (record { run = o; number = m }))))
has_kind_alone own r n (Number m) hs = refl
has_kind_alone own r n (Backup m) hs = refl
has_kind_alone own r n (Temp o k) hs = refl
has_kind_alone own r n Sequences hs = refl
has_kind_alone own r n LockFile hs = refl
has_kind_alone own r n Other hs = refl

-- those that were found, with those of the names that are left
abbrev pub AreFoundSoFar : ℕ → List (List ℕ) → ℕ → List HeldPair → Type 0
AreFoundSoFar own names i hs = (r n : ℕ) → has_pair r n hs || has_pair r n (held_pairs own (drop i names)) ≡ has_pair r n (held_pairs own names)

pub none_found : (own : ℕ) (names : List (List ℕ)) (hs : List HeldPair) → hs ≡ [] → AreFoundSoFar own names 0 hs
none_found own names hs e = λ r n. ap (λ l. has_pair r n l || has_pair r n (held_pairs own names)) e

pub one_found : (own : ℕ) (names : List (List ℕ)) (i : ℕ) (x : List ℕ) (hs ks : List HeldPair) → i < length names → x ≡ get_or names i x → ks ≡ hs ++ alone (pair_in own (kind_of x)) → AreFoundSoFar own names i hs → AreFoundSoFar own names (i + 1) ks
unfolding held_pairs
one_found own names i x hs ks lt is put so = λ r n.
    let at : drop i names ≡ x ∷ drop (suc i) names = drop-cons names i x lt ∙ ap (λ y. y ∷ drop (suc i) names) (sym is) in
    let more : i + 1 ≡ suc i = omega arith in
    rw more
    (ap (λ l. has_pair r n l || has_pair r n (held_pairs own (drop (suc i) names))) put
    ∙ (ap (λ b. b || has_pair r n (held_pairs own (drop (suc i) names))) (has_append r n hs (alone (pair_in own (kind_of x))))
    ∙ (or_group (has_pair r n hs) (has_pair r n (alone (pair_in own (kind_of x)))) (has_pair r n (held_pairs own (drop (suc i) names)))
    ∙ (ap (λ b. has_pair r n hs || b) (sym (has_kind_alone own r n (kind_of x) (held_pairs own (drop (suc i) names))))
    ∙ (ap (λ l. has_pair r n hs || has_pair r n (held_pairs own l)) (sym at) ∙ so r n)))))

past : (names : List (List ℕ)) (i : ℕ) → length names ≤ i → drop i names ≡ []
past [] zero le = refl
past [] (suc i) le = refl
past (x ∷ xs) zero le = absurd (omega arith)
past (x ∷ xs) (suc i) le = past xs i (omega arith)

pub all_found : (own : ℕ) (names : List (List ℕ)) (i : ℕ) (hs : List HeldPair) → length names ≤ i → AreFoundSoFar own names i hs → (r n : ℕ) → has_pair r n hs ≡ has_pair r n (held_pairs own names)
unfolding held_pairs
all_found own names i hs le so r n = sym (ap (λ l. has_pair r n hs || has_pair r n (held_pairs own l)) (past names i le) ∙ or_none (has_pair r n hs)) ∙ so r n

-- in whatever order
has_any : (r n : ℕ) (hs : List HeldPair) → has_pair r n hs ≡ list_any (is_pair r n) hs
has_any r n [] = refl
has_any r n (h ∷ hs) = ap (λ b. is_pair r n h || b) (has_any r n hs)

pub reordered : (hs ks : List HeldPair) → IsPermutation hs ks → (r n : ℕ) → has_pair r n ks ≡ has_pair r n hs
reordered hs ks moved r n = has_any r n ks ∙ (sym (list_any-IsPermutation (is_pair r n) hs ks moved) ∙ sym (has_any r n hs))

-- those in order, with those that are left
pub record ArePutSoFar (own : ℕ) (names : List (List ℕ)) (rest hs : List HeldPair) : Type 0 where
  pub in_order : AreInOrder hs
  pub all : (r n : ℕ) → has_pair r n hs || has_pair r n rest ≡ has_pair r n (held_pairs own names)

pub none_put : (own : ℕ) (names : List (List ℕ)) (found sorted hs : List HeldPair) → IsPermutation found sorted → ((r n : ℕ) → has_pair r n found ≡ has_pair r n (held_pairs own names)) → hs ≡ [] → ArePutSoFar own names sorted hs
none_put own names found sorted hs moved is e = record { in_order = subst AreInOrder (sym e) tt; all = λ r n. ap (λ l. has_pair r n l || has_pair r n sorted) e ∙ (reordered found sorted moved r n ∙ is r n) }

pub one_put : (own : ℕ) (names : List (List ℕ)) (sorted : List HeldPair) (i : ℕ) (h : HeldPair) (hs ks : List HeldPair) → i < length sorted → h ≡ get_or sorted i h → ks ≡ inserted h hs → ArePutSoFar own names (drop i sorted) hs → ArePutSoFar own names (drop (i + 1) sorted) ks
one_put own names sorted i h hs ks lt is put so = record {
  in_order = subst AreInOrder (sym put) (ordered h hs so.in_order);
  all = λ r n.
      let at : drop i sorted ≡ h ∷ drop (suc i) sorted = drop-cons sorted i h lt ∙ ap (λ y. y ∷ drop (suc i) sorted) (sym is) in
      let more : i + 1 ≡ suc i = omega arith in
      rw more
      (ap (λ l. has_pair r n l || has_pair r n (drop (suc i) sorted)) put
      ∙ (ap (λ b. b || has_pair r n (drop (suc i) sorted)) (has_inserted r n h hs)
      ∙ (or_over (is_pair r n h) (has_pair r n hs) (has_pair r n (drop (suc i) sorted))
      ∙ (ap (λ l. has_pair r n hs || has_pair r n l) (sym at) ∙ so.all r n))));
}

past_pairs : (hs : List HeldPair) (i : ℕ) → length hs ≤ i → drop i hs ≡ []
past_pairs [] zero le = refl
past_pairs [] (suc i) le = refl
past_pairs (x ∷ xs) zero le = absurd (omega arith)
past_pairs (x ∷ xs) (suc i) le = past_pairs xs i (omega arith)

pub all_pairs_put : (own : ℕ) (names : List (List ℕ)) (sorted : List HeldPair) (i : ℕ) (hs : List HeldPair) → length sorted ≤ i → ArePutSoFar own names (drop i sorted) hs → hs ≡ held_pairs own names
all_pairs_put own names sorted i hs le so =
    one_list hs (held_pairs own names) so.in_order (pairs_ordered own names)
    (λ r n. sym (ap (λ l. has_pair r n hs || has_pair r n l) (past_pairs sorted i le) ∙ or_none (has_pair r n hs)) ∙ so.all r n)
