-- The pairs of a listing are just those that the folder holds, in order.
use Rattle.std.proofs.Common.{◌≡◌, ◌&&◌, ◌||◌, ◌==◌, ◌<◌, ◌^◌, ℕ, Bool, true, false, List, [], ◌∷◌, refl, sym, ◌∙◌, ap, subst, arith, bytes_eq, nat_lt}
use Rattle.std.specs.Prelude.{not, if◌then◌else◌}
use Rattle.std.proofs.lemmas.Bool.Decides.{nat_tests, Decides-ltb, Decides-eqb}
use Rattle.mh_base.specs.Entries.{kind_of, entry_text, IsKind}
use Rattle.mh_base.specs.Numbers.{IsMsgNum}
use Rattle.mh_base.specs.declared.entry.Entry.{Entry}
use Rattle.mh_base.specs.declared.entry.Entry.TheVariants.{Number, Backup, Held, Temp, Sequences, LockFile, Other}
use Rattle.mh_base.proofs.EntryKinds.{kind_is, kind_of-entry_text}
use Rattle.folder_files.specs.Named.{is_hold_of}
use Rattle.folder_files.specs.Steps.{has_text}
use Rattle.file_plans.specs.Mailboxes.{is_message_number}
use Rattle.folder_files.proofs.Names.{bytes_true, bytes_self, bytes_false, both, or_left, or_last, num_itself}
use Rattle.file_plans.proofs.Showing.{is_number_of, number_ok}
use Rattle.held_messages.specs.declared.held.HeldPair.{HeldPair}
use Rattle.held_messages.specs.HeldPairs.{held_name, is_pair, has_pair, is_before, AreInOrder, inserted, with_kind, held_pairs}

-- a run and a number as names have them
abbrev pub IsPair : HeldPair → Type 0
IsPair h = (h.run < 2 ^ 128) × IsMsgNum h.number

abbrev pub ArePairs : List HeldPair → Type 0
ArePairs [] = Unit {0}
ArePairs (h ∷ hs) = IsPair h × ArePairs hs

abbrev pub IsApart : HeldPair → List HeldPair → Type 0
IsApart h [] = Unit {0}
IsApart h (k ∷ ks) = (bytes_eq (held_name h) (held_name k) ≡ false) × IsApart h ks

abbrev pub AreApart : List HeldPair → Type 0
AreApart [] = Unit {0}
AreApart (h ∷ hs) = IsApart h hs × AreApart hs

pub held_kind : (h : HeldPair) → IsPair h → kind_of (held_name h) ≡ Held h.run h.number
held_kind h ok = kind_of-entry_text (Held h.run h.number) ok

-- tests
same_tests : (a b : Bool) → (a ≡ true → b ≡ true) → (b ≡ true → a ≡ true) → a ≡ b
same_tests true true f g = refl
same_tests true false f g = let e : false ≡ true = f refl in cc
same_tests false true f g = let e : false ≡ true = g refl in cc
same_tests false false f g = refl

or_turned : (a b c : Bool) → a || (b || c) ≡ b || (a || c)
or_turned true true c = refl
or_turned true false c = refl
or_turned false true c = refl
or_turned false false c = refl

or_twice : (a b : Bool) → a || b ≡ a || (a || b)
or_twice true b = refl
or_twice false b = refl

guarded : (a b c d : Bool) → (a && (b && c)) || (a && (b && d)) ≡ a && (b && (c || d))
guarded true true c d = refl
guarded true false c d = refl
guarded false b c d = refl

-- the order
abbrev pub earlier : ℕ → ℕ → ℕ → ℕ → Bool
earlier hn hr kn kr = nat_lt hn kn || ((hn == kn) && nat_lt hr kr)

pub neither : (hn hr kn kr : ℕ) → earlier hn hr kn kr ≡ false → earlier kn kr hn hr ≡ false → (hn ≡ kn) × (hr ≡ kr)
neither hn hr kn kr e f = (number, run)
  where
    number : hn ≡ kn
    number = grind (arith, nat_tests)

    run : hr ≡ kr
    run = grind (arith, nat_tests)

pub not_itself : (n r : ℕ) → earlier n r n r ≡ true → ⊥
not_itself n r e = grind (arith, nat_tests)

pub earlier_on : (an ar bn br cn cr : ℕ) → earlier an ar bn br ≡ true → earlier bn br cn cr ≡ true → earlier an ar cn cr ≡ true
earlier_on an ar bn br cn cr e f = grind (arith, nat_tests)

-- insertion
pub has_inserted : (r n : ℕ) (h : HeldPair) (hs : List HeldPair) → has_pair r n (inserted h hs) ≡ is_pair r n h || has_pair r n hs
unfolding inserted
has_inserted r n h [] = refl
has_inserted r n h (k ∷ ks) = go (is_before h k) (is_before k h) refl refl (has_inserted r n h ks)
  where
    go : (u v : Bool) → is_before h k ≡ u → is_before k h ≡ v → has_pair r n (inserted h ks) ≡ is_pair r n h || has_pair r n ks
        → has_pair r n (if u then h ∷ (k ∷ ks) else (if v then k ∷ inserted h ks else k ∷ ks)) ≡ is_pair r n h || (is_pair r n k || has_pair r n ks)
    go true v e f more = refl
    go false true e f more = ap (λ b. is_pair r n k || b) more ∙ or_turned (is_pair r n k) (is_pair r n h) (has_pair r n ks)
    go false false e f more =
        let same = neither h.number h.run k.number k.run e f in
        or_twice (is_pair r n k) (has_pair r n ks) ∙ (λ i. ((sym same.1 i == r) && (sym same.0 i == n)) || (is_pair r n k || has_pair r n ks))

ordered_after : (k h : HeldPair) (ks : List HeldPair) → is_before k h ≡ true → AreInOrder (k ∷ ks) → AreInOrder (k ∷ inserted h ks)
unfolding inserted
ordered_after k h [] e o = (e, tt)
ordered_after k h (j ∷ js) e o = go (is_before h j) (is_before j h) refl refl (λ f. ordered_after j h js f o.1)
  where
    go : (u v : Bool) → is_before h j ≡ u → is_before j h ≡ v → (is_before j h ≡ true → AreInOrder (j ∷ inserted h js)) → AreInOrder (k ∷ (if u then h ∷ (j ∷ js) else (if v then j ∷ inserted h js else j ∷ js)))
    go true v f g more = (e, (f, o.1))
    go false true f g more = (o.0, more g)
    go false false f g more = o

pub ordered : (h : HeldPair) (hs : List HeldPair) → AreInOrder hs → AreInOrder (inserted h hs)
unfolding inserted
ordered h [] o = tt
ordered h (k ∷ ks) o = go (is_before h k) (is_before k h) refl refl
  where
    go : (u v : Bool) → is_before h k ≡ u → is_before k h ≡ v → AreInOrder (if u then h ∷ (k ∷ ks) else (if v then k ∷ inserted h ks else k ∷ ks))
    go true v e f = (e, o)
    go false true e f = ordered_after k h ks f o
    go false false e f = o

kind_ordered : (own : ℕ) (e : Entry) (hs : List HeldPair) → AreInOrder hs → AreInOrder (with_kind own e hs)
kind_ordered own (Held r n) hs o = go (r == own)
  where
    go : (b : Bool) → AreInOrder (if b then hs else inserted (record { run = r; number = n }) hs)
    go true = o
    go false = ordered (record { run = r; number = n }) hs o
kind_ordered own (Number n) hs o = o
kind_ordered own (Backup n) hs o = o
kind_ordered own (Temp r k) hs o = o
kind_ordered own Sequences hs o = o
kind_ordered own LockFile hs o = o
kind_ordered own Other hs o = o

pub pairs_ordered : (own : ℕ) (names : List (List ℕ)) → AreInOrder (held_pairs own names)
unfolding held_pairs
pairs_ordered own [] = tt
pairs_ordered own (x ∷ names) = kind_ordered own (kind_of x) (held_pairs own names) (pairs_ordered own names)

-- which pairs these are
none : (a b : Bool) → b ≡ (not a && false) || b
none true b = refl
none false b = refl

has_kind : (own r n : ℕ) (e : Entry) (hs : List HeldPair) → has_pair r n (with_kind own e hs) ≡ (not (r == own) && is_hold_of r n e) || has_pair r n hs
has_kind own r n (Held o m) hs = go (o == own) refl (r == own) refl
  where
    left_out : (a : Bool) → (a ≡ true → ⊥) → (b : Bool) → b ≡ a || b
    left_out true f b = absurd (f refl)
    left_out false f b = refl

    another : (u v : Bool) → (o == own) ≡ u → (r == own) ≡ v → (v ≡ u → ⊥) → not v && ((o == r) && (m == n)) ≡ true → ⊥
    another u v e f apart t =
        let same : o ≡ r = (Decides-eqb o r).0 (both (o == r) (m == n) (both (not v) ((o == r) && (m == n)) t).1).0 in
        apart (sym f ∙ ((λ i. sym same i == own) ∙ e))

    go : (u : Bool) → (o == own) ≡ u → (v : Bool) → (r == own) ≡ v → has_pair r n (if u then hs else inserted (record { run = o; number = m }) hs) ≡ (not v && ((o == r) && (m == n))) || has_pair r n hs
    go true e true f = refl
    go true e false f = left_out ((o == r) && (m == n)) (another true false e f (λ s. cc (s))) (has_pair r n hs)
    go false e true f = has_inserted r n (record { run = o; number = m }) hs ∙ ap (λ b. b || has_pair r n hs) (same_tests ((o == r) && (m == n)) false (λ t. absurd (mine t)) (λ t. cc (t)))
      where
        mine : (o == r) && (m == n) ≡ true → ⊥
        mine t =
            let same : o ≡ r = (Decides-eqb o r).0 (both (o == r) (m == n) t).0 in
            let g : true ≡ false = sym f ∙ ((λ i. sym same i == own) ∙ e) in cc (g)
    go false e false f = has_inserted r n (record { run = o; number = m }) hs
has_kind own r n (Number m) hs = none (r == own) (has_pair r n hs)
has_kind own r n (Backup m) hs = none (r == own) (has_pair r n hs)
has_kind own r n (Temp o k) hs = none (r == own) (has_pair r n hs)
has_kind own r n Sequences hs = none (r == own) (has_pair r n hs)
has_kind own r n LockFile hs = none (r == own) (has_pair r n hs)
has_kind own r n Other hs = none (r == own) (has_pair r n hs)

hold_text : (r n : ℕ) (x : List ℕ) (e : Entry) → IsKind x e → is_hold_of r n e ≡ true → (r < 2 ^ 128) × IsMsgNum n × (x ≡ entry_text (Held r n))
hold_text r n x (Held o m) k t =
    let b = both (o == r) (m == n) t in
    let same : o ≡ r = (Decides-eqb o r).0 b.0 in
    let alike : m ≡ n = (Decides-eqb m n).0 b.1 in
    (subst (λ z. z < 2 ^ 128) same k.0.0, subst IsMsgNum alike k.0.1, k.1 ∙ (λ i. entry_text (Held (same i) (alike i))))
hold_text r n x _ k t = absurd (cc (t))

name_hold : (r n : ℕ) (x : List ℕ) → is_hold_of r n (kind_of x) ≡ nat_lt r (2 ^ 128) && (is_message_number n && bytes_eq x (entry_text (Held r n)))
name_hold r n x = same_tests (is_hold_of r n (kind_of x)) (nat_lt r (2 ^ 128) && (is_message_number n && bytes_eq x (entry_text (Held r n)))) there back
  where
    there : is_hold_of r n (kind_of x) ≡ true → nat_lt r (2 ^ 128) && (is_message_number n && bytes_eq x (entry_text (Held r n))) ≡ true
    there t =
        let k = hold_text r n x (kind_of x) (kind_is x) t in
        rw ((Decides-ltb r (2 ^ 128)).1 k.0, is_number_of n k.1, ap (λ z. bytes_eq z (entry_text (Held r n))) k.2 ∙ bytes_self (entry_text (Held r n))) refl

    back : nat_lt r (2 ^ 128) && (is_message_number n && bytes_eq x (entry_text (Held r n))) ≡ true → is_hold_of r n (kind_of x) ≡ true
    back t =
        let a = both (nat_lt r (2 ^ 128)) (is_message_number n && bytes_eq x (entry_text (Held r n))) t in
        let b = both (is_message_number n) (bytes_eq x (entry_text (Held r n))) a.1 in
        let kind : kind_of x ≡ Held r n = ap kind_of (bytes_true x (entry_text (Held r n)) b.1) ∙ kind_of-entry_text (Held r n) ((Decides-ltb r (2 ^ 128)).0 a.0, number_ok n b.0) in
        rw (kind, num_itself r, num_itself n) refl

guarded_too : (z a b c d : Bool) → (z && (a && (b && c))) || (z && (a && (b && d))) ≡ z && (a && (b && (c || d)))
guarded_too true a b c d = guarded a b c d
guarded_too false a b c d = refl

pub has_held : (own r n : ℕ) (names : List (List ℕ)) → has_pair r n (held_pairs own names) ≡ not (r == own) && (nat_lt r (2 ^ 128) && (is_message_number n && has_text (entry_text (Held r n)) names))
unfolding held_pairs
has_held own r n [] = empty (not (r == own)) (nat_lt r (2 ^ 128)) (is_message_number n)
  where
    empty : (z a b : Bool) → false ≡ z && (a && (b && false))
    empty true true true = refl
    empty true true false = refl
    empty true false b = refl
    empty false a b = refl
has_held own r n (x ∷ names) =
    has_kind own r n (kind_of x) (held_pairs own names) ∙ ((λ i. (not (r == own) && name_hold r n x i) || has_held own r n names i) ∙ guarded_too (not (r == own)) (nat_lt r (2 ^ 128)) (is_message_number n) (bytes_eq x (entry_text (Held r n))) (has_text (entry_text (Held r n)) names))

-- what holds of each
abbrev pub IsListedPair : List (List ℕ) → HeldPair → Type 0
IsListedPair names h = IsPair h × (has_text (held_name h) names ≡ true)

abbrev pub All : (HeldPair → Type 0) → List HeldPair → Type 0
All P [] = Unit {0}
All P (h ∷ hs) = P h × All P hs

all_members : (P : HeldPair → Type 0) (hs : List HeldPair) → ((h : HeldPair) → has_pair h.run h.number hs ≡ true → P h) → All P hs
all_members P [] f = tt
all_members P (h ∷ hs) f = (f h (or_left (is_pair h.run h.number h) (has_pair h.run h.number hs) (itself h)), all_members P hs (λ k e. f k (or_last (is_pair k.run k.number h) (has_pair k.run k.number hs) e)))
  where
    itself : (h : HeldPair) → is_pair h.run h.number h ≡ true
    itself h = rw (num_itself h.run, num_itself h.number) refl

pub pairs_listed : (own : ℕ) (names : List (List ℕ)) → All (IsListedPair names) (held_pairs own names)
pairs_listed own names = all_members (IsListedPair names) (held_pairs own names) each
  where
    each : (h : HeldPair) → has_pair h.run h.number (held_pairs own names) ≡ true → IsListedPair names h
    each h e =
        let z = both (not (h.run == own)) (nat_lt h.run (2 ^ 128) && (is_message_number h.number && has_text (held_name h) names)) (sym (has_held own h.run h.number names) ∙ e) in
        let a = both (nat_lt h.run (2 ^ 128)) (is_message_number h.number && has_text (held_name h) names) z.1 in
        let b = both (is_message_number h.number) (has_text (held_name h) names) a.1 in
        (((Decides-ltb h.run (2 ^ 128)).0 a.0, number_ok h.number b.0), b.1)

pub are_pairs : (names : List (List ℕ)) (hs : List HeldPair) → All (IsListedPair names) hs → ArePairs hs
are_pairs names [] all = tt
are_pairs names (h ∷ hs) all = (all.0.0, are_pairs names hs all.1)

-- names in order are apart
before_apart : (h k : HeldPair) → IsPair h → IsPair k → is_before h k ≡ true → bytes_eq (held_name h) (held_name k) ≡ false
before_apart h k good fine e = bytes_false (held_name h) (held_name k) same
  where
    same : held_name h ≡ held_name k → ⊥
    same f =
        let kinds : Held h.run h.number ≡ Held k.run k.number = sym (held_kind h good) ∙ (ap kind_of f ∙ held_kind k fine) in
        let run : h.run ≡ k.run = cc (kinds) in
        let number : h.number ≡ k.number = cc (kinds) in
        not_itself h.number h.run ((λ i. earlier h.number h.run (number i) (run i)) ∙ e)

one_apart : (h : HeldPair) (hs : List HeldPair) → IsPair h → ArePairs hs → AreInOrder (h ∷ hs) → IsApart h hs
one_apart h [] good pairs o = tt
one_apart h (k ∷ ks) good pairs o = (before_apart h k good pairs.0 o.0, one_apart h ks good pairs.1 (without ks o))
  where
    without : (ks : List HeldPair) → AreInOrder (h ∷ (k ∷ ks)) → AreInOrder (h ∷ ks)
    without [] o = tt
    without (j ∷ js) o = (earlier_on h.number h.run k.number k.run j.number j.run o.0 o.1.0, o.1.1)

pub are_apart : (hs : List HeldPair) → ArePairs hs → AreInOrder hs → AreApart hs
are_apart [] pairs o = tt
are_apart (h ∷ hs) pairs o = (one_apart h hs pairs.0 pairs.1 o, are_apart hs pairs.1 (rest hs o))
  where
    rest : (hs : List HeldPair) → AreInOrder (h ∷ hs) → AreInOrder hs
    rest [] o = tt
    rest (k ∷ ks) o = o.1

-- a held name is that of its pair alone
pub same_name : (h : HeldPair) → IsPair h → (r k : ℕ) → r < 2 ^ 128 → IsMsgNum k → bytes_eq (held_name h) (entry_text (Held r k)) ≡ is_pair r k h
same_name h ok r k small good =
    sym (rw ((Decides-ltb r (2 ^ 128)).1 small, is_number_of k good) at (name_hold r k (held_name h))) ∙ ap (is_hold_of r k) (held_kind h ok)
