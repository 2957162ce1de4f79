-- Where what is held aside in a folder goes alone: it is found by number and by run.
use Rattle.std.proofs.Common.{◌≡◌, ◌⊎◌, inl, inr, ◌≤◌, ◌<◌, ◌^◌, ◌+◌, ◌++◌, ◌&&◌, ◌||◌, ◌==◌, ℕ, zero, suc, Bool, true, false, List, [], ◌∷◌, Option, None, Some, refl, sym, ◌∙◌, ap, subst, arith, nat_lt}
use Rattle.std.specs.Prelude.{not, is_some, nat_le, if◌then◌else◌}
use Rattle.std.proofs.lemmas.Bool.{and_from, and_parts, eqb-false, leb-true, lt-ltb, ltb-false, ltb-true}
use Rattle.std.proofs.lemmas.Bool.Decides.{Decides-eqb}
use Rattle.folder_files.specs.Places.{is_folder}
use Rattle.folder_files.specs.declared.place.Place.{Place}
use Rattle.folder_files.proofs.Names.{num_itself, or_case, or_left}
use Rattle.file_plans.specs.Contents.{Contents, folder_at, mailbox_in}
use Rattle.file_plans.specs.Mailboxes.{Folder as FolderValue, is_message_number, numbered}
use Rattle.held_messages.specs.HeldPairs.{AreInOrder, has_pair, is_before, is_pair}
use Rattle.held_messages.specs.declared.held.HeldPair.{HeldPair}
use Rattle.mh_base.proofs.NumberTests.{or_right}
use Rattle.opening_plans.specs.BegunWork.{AreHomes, AreHomesAt}
use Rattle.opening_plans.specs.HomesOf.{homes_at, homes_of, pairs_at, pairs_from, top_from}

-- of this number and run or behind
abbrev AtOrBehind : ℕ → ℕ → HeldPair → Type 0
AtOrBehind n r h = (n < h.number) ⊎ ((n ≡ h.number) × (r ≤ h.run))

abbrev FromOn : ℕ → ℕ → List HeldPair → Type 0
FromOn n r [] = Unit {0}
FromOn n r (h ∷ hs) = AtOrBehind n r h × FromOn h.number (h.run + 1) hs

behind : (n r m s : ℕ) (h : HeldPair) → (n < m) ⊎ ((n ≡ m) × (r ≤ s)) → AtOrBehind m s h → AtOrBehind n r h
behind n r m s h (inl l) (inl k) = inl (omega (arith, l, k))
behind n r m s h (inl l) (inr k) = let e = k.0 in inl (omega (arith, l, e))
behind n r m s h (inr l) (inl k) = let e = l.0 in inl (omega (arith, e, k))
behind n r m s h (inr l) (inr k) = let d = l.1 in let e = k.1 in inr (l.0 ∙ k.0, omega (arith, d, e))

earlier_from : (n r m s : ℕ) (hs : List HeldPair) → (n < m) ⊎ ((n ≡ m) × (r ≤ s)) → FromOn m s hs → FromOn n r hs
earlier_from n r m s [] l f = tt
earlier_from n r m s (h ∷ hs) l f = (behind n r m s h l f.0, f.1)

order_by : (own : ℕ) (f : FolderValue) (n r k : ℕ) (rest : List HeldPair) (b : Bool) → FromOn n (r + 1) (pairs_at own f n (r + 1) k ++ rest)
    → FromOn n r ((if b then record { run = r; number = n } ∷ pairs_at own f n (r + 1) k else pairs_at own f n (r + 1) k) ++ rest)
order_by own f n r k rest true more = (inr (refl, omega arith), more)
order_by own f n r k rest false more = earlier_from n r n (r + 1) (pairs_at own f n (r + 1) k ++ rest) (inr (refl, omega arith)) more

at_order : (own : ℕ) (f : FolderValue) (n r k : ℕ) (rest : List HeldPair) → FromOn (n + 1) 0 rest → FromOn n r (pairs_at own f n r k ++ rest)
unfolding pairs_at
at_order own f n r zero rest o = earlier_from n r (n + 1) 0 rest (inl (omega arith)) o
at_order own f n r (suc k) rest o = order_by own f n r k rest (not (r == own) && is_some (f.held r n)) (at_order own f n (r + 1) k rest o)

from_order : (own : ℕ) (f : FolderValue) (n k : ℕ) → FromOn n 0 (pairs_from own f n k)
unfolding pairs_from
from_order own f n zero = tt
from_order own f n (suc k) = at_order own f n 0 (2 ^ 128) (pairs_from own f (n + 1) k) (from_order own f (n + 1) k)

is_next : (h k : HeldPair) → AtOrBehind h.number (h.run + 1) k → is_before h k ≡ true
is_next h k (inl l) = rw (lt-ltb h.number k.number l) refl
is_next h k (inr l) = let e = l.1 in or_right (nat_lt h.number k.number) ((h.number == k.number) && nat_lt h.run k.run) (and_from (h.number == k.number) (nat_lt h.run k.run) ((Decides-eqb h.number k.number).1 l.0) (lt-ltb h.run k.run (omega (arith, e))))

in_order : (n r : ℕ) (hs : List HeldPair) → FromOn n r hs → AreInOrder hs
in_order n r [] f = tt
in_order n r (h ∷ []) f = tt
in_order n r (h ∷ (k ∷ hs)) f = (is_next h k f.1.0, in_order h.number (h.run + 1) (k ∷ hs) f.1)

-- which pairs there are
has_both : (r n : ℕ) (hs ks : List HeldPair) → has_pair r n (hs ++ ks) ≡ has_pair r n hs || has_pair r n ks
has_both r n [] ks = refl
has_both r n (h ∷ hs) ks = ap (λ b. is_pair r n h || b) (has_both r n hs ks) ∙ grouped (is_pair r n h) (has_pair r n hs) (has_pair r n ks)
  where
    grouped : (a b c : Bool) → a || (b || c) ≡ (a || b) || c
    grouped true b c = refl
    grouped false b c = refl

abbrev IsOthers : ℕ → FolderValue → ℕ → ℕ → Type 0
IsOthers own f r n = not (r == own) && is_some (f.held r n) ≡ true

record IsWithin (own : ℕ) (f : FolderValue) (m s k r n : ℕ) : Type 0 where
  number : m ≡ n
  low : s ≤ r
  high : r < s + k
  others : IsOthers own f r n

pair_at : (r n : ℕ) (h : HeldPair) → is_pair r n h ≡ true → (h.number ≡ n) × (h.run ≡ r)
pair_at r n h e =
    let p = and_parts (h.run == r) (h.number == n) e in
    ((Decides-eqb h.number n).0 p.1, (Decides-eqb h.run r).0 p.0)

further : (own : ℕ) (f : FolderValue) (m s k r n : ℕ) → IsWithin own f m (s + 1) k r n → IsWithin own f m s (suc k) r n
further own f m s k r n w = let l = w.low in let h = w.high in record { number = w.number; low = omega (arith, l); high = omega (arith, h); others = w.others }

within_here : (own : ℕ) (f : FolderValue) (m s k r n : ℕ) → not (s == own) && is_some (f.held s m) ≡ true → (m ≡ n) × (s ≡ r) → IsWithin own f m s (suc k) r n
within_here own f m s k r n is q =
    let same : s ≡ r = q.1 in
    record { number = q.0; low = omega (arith, same); high = omega (arith, same); others = subst (λ x. IsOthers own f x n) q.1 (subst (λ y. IsOthers own f s y) q.0 is) }

within_by : (own : ℕ) (f : FolderValue) (m s k r n : ℕ) (b : Bool) → not (s == own) && is_some (f.held s m) ≡ b → (has_pair r n (pairs_at own f m (s + 1) k) ≡ true → IsWithin own f m (s + 1) k r n)
    → has_pair r n (if b then record { run = s; number = m } ∷ pairs_at own f m (s + 1) k else pairs_at own f m (s + 1) k) ≡ true → IsWithin own f m s (suc k) r n
within_by own f m s k r n true is more there = elim (or_case (is_pair r n (record { run = s; number = m })) (has_pair r n (pairs_at own f m (s + 1) k)) there) [
  | inl p ↦ within_here own f m s k r n is (pair_at r n (record { run = s; number = m }) p)
  | inr p ↦ further own f m s k r n (more p)
]
within_by own f m s k r n false is more there = further own f m s k r n (more there)

at_within : (own : ℕ) (f : FolderValue) (m s k r n : ℕ) → has_pair r n (pairs_at own f m s k) ≡ true → IsWithin own f m s k r n
unfolding pairs_at
at_within own f m s zero r n e = cc (e)
at_within own f m s (suc k) r n e = within_by own f m s k r n (not (s == own) && is_some (f.held s m)) refl (λ p. at_within own f m (s + 1) k r n p) e

split_at : (s r : ℕ) → s ≤ r → (s ≡ r) ⊎ (s < r)
split_at s r low = by (nat_lt s r) refl
  where
    by : (b : Bool) → nat_lt s r ≡ b → (s ≡ r) ⊎ (s < r)
    by true e = inr (ltb-true s r e)
    by false e = let least : r ≤ s = ltb-false s r e in inl (omega (arith, low, least))

has_here : (s r n : ℕ) → s ≡ r → is_pair r n (record { run = s; number = n }) ≡ true
has_here s r n e = rw ((Decides-eqb s r).1 e, num_itself n) refl

has_by : (own : ℕ) (f : FolderValue) (s k r n : ℕ) (b : Bool) → not (s == own) && is_some (f.held s n) ≡ b → IsOthers own f r n → (s ≡ r) ⊎ (s < r) → (s < r → has_pair r n (pairs_at own f n (s + 1) k) ≡ true)
    → has_pair r n (if b then record { run = s; number = n } ∷ pairs_at own f n (s + 1) k else pairs_at own f n (s + 1) k) ≡ true
has_by own f s k r n true here is (inl e) more = or_left (is_pair r n (record { run = s; number = n })) (has_pair r n (pairs_at own f n (s + 1) k)) (has_here s r n e)
has_by own f s k r n true here is (inr l) more = or_right (is_pair r n (record { run = s; number = n })) (has_pair r n (pairs_at own f n (s + 1) k)) (more l)
has_by own f s k r n false here is (inl e) more = absurd (cc (sym here ∙ subst (λ x. IsOthers own f x n) (sym e) is))
has_by own f s k r n false here is (inr l) more = more l

at_has : (own : ℕ) (f : FolderValue) (s k r n : ℕ) → s ≤ r → r < s + k → IsOthers own f r n → has_pair r n (pairs_at own f n s k) ≡ true
unfolding pairs_at
at_has own f s zero r n low high is = absurd (omega (arith, low, high))
at_has own f s (suc k) r n low high is =
    has_by own f s k r n (not (s == own) && is_some (f.held s n)) refl is (split_at s r low) (λ l. at_has own f (s + 1) k r n (omega (arith, l)) (omega (arith, high)) is)

record IsAmong (own : ℕ) (f : FolderValue) (m k r n : ℕ) : Type 0 where
  low : m ≤ n
  high : n < m + k
  run : r < 2 ^ 128
  others : IsOthers own f r n

from_among : (own : ℕ) (f : FolderValue) (m k r n : ℕ) → has_pair r n (pairs_from own f m k) ≡ true → IsAmong own f m k r n
unfolding pairs_from
from_among own f m zero r n e = cc (e)
from_among own f m (suc k) r n e = elim (or_case (has_pair r n (pairs_at own f m 0 (2 ^ 128))) (has_pair r n (pairs_from own f (m + 1) k)) (sym (has_both r n (pairs_at own f m 0 (2 ^ 128)) (pairs_from own f (m + 1) k)) ∙ e)) [
  | inl p ↦ (let w = at_within own f m 0 (2 ^ 128) r n p in let q = w.number in record { low = omega (arith, q); high = omega (arith, q); run = w.high; others = w.others })
  | inr p ↦ (let w = from_among own f (m + 1) k r n p in let l = w.low in let h = w.high in record { low = omega (arith, l); high = omega (arith, h); run = w.run; others = w.others })
]

has_either : (own : ℕ) (f : FolderValue) (m k r n : ℕ) → r < 2 ^ 128 → IsOthers own f r n → (m ≡ n) ⊎ (m < n) → (m < n → has_pair r n (pairs_from own f (m + 1) k) ≡ true)
    → has_pair r n (pairs_at own f m 0 (2 ^ 128)) || has_pair r n (pairs_from own f (m + 1) k) ≡ true
has_either own f m k r n small is (inl same) more =
    or_left (has_pair r n (pairs_at own f m 0 (2 ^ 128))) (has_pair r n (pairs_from own f (m + 1) k)) (subst (λ x. has_pair r n (pairs_at own f x 0 (2 ^ 128)) ≡ true) (sym same) (at_has own f 0 (2 ^ 128) r n (omega arith) small is))
has_either own f m k r n small is (inr l) more = or_right (has_pair r n (pairs_at own f m 0 (2 ^ 128))) (has_pair r n (pairs_from own f (m + 1) k)) (more l)

from_has : (own : ℕ) (f : FolderValue) (m k r n : ℕ) → m ≤ n → n < m + k → r < 2 ^ 128 → IsOthers own f r n → has_pair r n (pairs_from own f m k) ≡ true
unfolding pairs_from
from_has own f m zero r n low high small is = absurd (omega (arith, low, high))
from_has own f m (suc k) r n low high small is =
    has_both r n (pairs_at own f m 0 (2 ^ 128)) (pairs_from own f (m + 1) k)
    ∙ has_either own f m k r n small is (split_at m n low) (λ l. from_has own f (m + 1) k r n (omega (arith, l)) (omega (arith, high)) small is)

-- the highest number
above_by : (f : FolderValue) (k n : ℕ) (b : Bool) → is_some (f.messages (suc k)) ≡ b → n ≤ suc k → is_some (f.messages n) ≡ true → (n ≤ k → n ≤ top_from f k) → n ≤ (if b then suc k else top_from f k)
above_by f k n true e l is more = l
above_by f k n false e l is more = by (n == suc k) refl
  where
    by : (b : Bool) → (n == suc k) ≡ b → n ≤ top_from f k
    by true q = absurd (cc (sym e ∙ (ap (λ x. is_some (f.messages x)) (sym ((Decides-eqb n (suc k)).0 q)) ∙ is)))
    by false q = more (omega (arith, l, eqb-false n (suc k) q))

top_above : (f : FolderValue) (k n : ℕ) → n ≤ k → is_some (f.messages n) ≡ true → n ≤ top_from f k
unfolding top_from
top_above f zero n l is = l
top_above f (suc k) n l is = above_by f k n (is_some (f.messages (suc k))) refl l is (λ m. top_above f k n m is)

there_by : (f : FolderValue) (k : ℕ) (b : Bool) → is_some (f.messages (suc k)) ≡ b → (top_from f k ≡ 0) ⊎ (is_some (f.messages (top_from f k)) ≡ true) → ((if b then suc k else top_from f k) ≡ 0) ⊎ (is_some (f.messages (if b then suc k else top_from f k)) ≡ true)
there_by f k true e more = inr e
there_by f k false e more = more

top_there : (f : FolderValue) (k : ℕ) → (top_from f k ≡ 0) ⊎ (is_some (f.messages (top_from f k)) ≡ true)
unfolding top_from
top_there f zero = inl refl
top_there f (suc k) = there_by f k (is_some (f.messages (suc k))) refl (top_there f k)

-- a folder with no number that a message may not have
pub record AreNumbers (f : FolderValue) : Type 0 where
  pub messages : (n : ℕ) → is_some (f.messages n) ≡ true → is_message_number n ≡ true
  pub held : (r n : ℕ) → is_some (f.held r n) ≡ true → is_message_number n ≡ true

low_number : (n : ℕ) → is_message_number n ≡ true → 1 ≤ n
low_number n e = leb-true 1 n (and_parts (nat_le 1 n) (nat_le n 999999) e).0

high_number : (n : ℕ) → is_message_number n ≡ true → n ≤ 999999
high_number n e = leb-true n 999999 (and_parts (nat_le 1 n) (nat_le n 999999) e).1

same_bools : (a b : Bool) → (a ≡ true → b ≡ true) → (b ≡ true → a ≡ true) → a ≡ b
same_bools true true f g = refl
same_bools true false f g = absurd (cc (f refl))
same_bools false true f g = absurd (cc (g refl))
same_bools false false f g = refl

pub homes_are : (own : ℕ) (f : FolderValue) → AreNumbers f → AreHomes own f (homes_of own f)
unfolding homes_of
homes_are own f numbers = record {
  held = record { in_order = in_order 1 0 (pairs_from own f 1 999999) (from_order own f 1 999999); all = λ run n. same_bools _ _ (there run n) (back run n) };
  highest = top_from f 999999;
  top = record { above = λ k is. top_above f 999999 k (high_number k (numbers.messages k is)) is; attained = top_there f 999999 };
  ends = refl;
}
  where
    there : (run n : ℕ) → has_pair run n (pairs_from own f 1 999999) ≡ true → not (run == own) && (nat_lt run (2 ^ 128) && is_some (f.held run n)) ≡ true
    there run n e =
        let w = from_among own f 1 999999 run n e in
        let p = and_parts (not (run == own)) (is_some (f.held run n)) w.others in
        and_from (not (run == own)) (nat_lt run (2 ^ 128) && is_some (f.held run n)) p.0 (and_from (nat_lt run (2 ^ 128)) (is_some (f.held run n)) (lt-ltb run (2 ^ 128) w.run) p.1)

    back : (run n : ℕ) → not (run == own) && (nat_lt run (2 ^ 128) && is_some (f.held run n)) ≡ true → has_pair run n (pairs_from own f 1 999999) ≡ true
    back run n e =
        let p = and_parts (not (run == own)) (nat_lt run (2 ^ 128) && is_some (f.held run n)) e in
        let q = and_parts (nat_lt run (2 ^ 128)) (is_some (f.held run n)) p.1 in
        let number = numbers.held run n q.1 in
        let low = low_number n number in
        let high = high_number n number in
        from_has own f 1 999999 run n low (omega (arith, high)) (ltb-true run (2 ^ 128) q.0) (and_from (not (run == own)) (is_some (f.held run n)) p.0 q.1)

-- folders show such numbers alone
numbered_some : (n : ℕ) (text : Option (List ℕ)) → is_some (numbered n text) ≡ true → is_message_number n ≡ true
numbered_some n text e = go (is_message_number n) e
  where
    go : (b : Bool) → is_some (if b then text else None) ≡ true → b ≡ true
    go true e = refl
    go false e = cc (e)

held_some : (b : Bool) (n : ℕ) (text : Option (List ℕ)) → is_some (if b then numbered n text else None) ≡ true → is_message_number n ≡ true
held_some true n text e = numbered_some n text e
held_some false n text e = cc (e)

abbrev shown_folder : Contents → Place → Bool → Bool → Option FolderValue
shown_folder c p b there = if b then (if there then Some (folder_at c p) else None) else None

pub homes_there : (own : ℕ) (c : Contents) (p : Place) → AreHomesAt own ((mailbox_in c).folders p) (homes_at own ((mailbox_in c).folders p))
unfolding mailbox_in
homes_there own c p = go (is_folder p) (c.there p)
  where
    go : (b there : Bool) → AreHomesAt own (shown_folder c p b there) (homes_at own (shown_folder c p b there))
    go true true = homes_are own (folder_at c p) (record { messages = λ n e. numbered_some n _ e; held = λ r n e. held_some (nat_lt r (2 ^ 128)) n _ e })
    go true false = tt
    go false there = tt
