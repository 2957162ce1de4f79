-- Names and their kinds.
use Rattle.std.proofs.Common.{◌≡◌, ℕ, Bool, true, false, ◌||◌, ◌&&◌, ◌⊎◌, inl, inr, List, [], ◌∷◌, take, drop, refl, sym, ◌∙◌, ap, arith, bytes_eq, decimal, codes, Option, Some, None, if◌then◌else◌, nat_lt, ◌==◌}
use Rattle.std.proofs.lemmas.Bool.Decides.{nat_tests}
use Rattle.std.specs.Fmt.{digits}
use Rattle.std.proofs.lemmas.Slice.Eq.{bytes_eq-Decides}
use Rattle.mh_base.specs.Numbers.{number_of, in_range, decimal_of, run_of}
use Rattle.mh_base.specs.Entries.{kind_of, number_by, backup_in, held_after, held_by, held_in, temp_after, temp_by, temp_in, hidden_in}
use Rattle.mh_base.specs.declared.entry.Entry.{Entry}
use Rattle.mh_base.specs.declared.entry.Entry.TheVariants.{Number, Backup, Held, Temp, Sequences, LockFile, Other}
use Rattle.mh_base.proofs.Decimals.{decimal_of_is}
use Rattle.folder_files.specs.Named.{is_temp, is_temp_of, is_number, is_held, is_held_of, is_other, is_hold_of, is_taking, is_backup_of, is_backing_up, is_sequences, is_committed, original_of}
use Rattle.folder_files.specs.declared.place.Place.{Place}
use Rattle.folder_files.specs.declared.place.Place.TheVariants.{Home, Work, Mail, Folder}
use Rattle.folder_files.specs.Standing.{is_standing, is_own, is_own_of}

pub num_same : (n m : ℕ) → (n == m) ≡ true → n ≡ m
num_same n m h = grind (arith, nat_tests)

pub num_apart : (n m : ℕ) → (n == m) ≡ false → n ≡ m → ⊥
num_apart n m h e = grind (arith, nat_tests)

pub num_itself : (n : ℕ) → (n == n) ≡ true
num_itself n = grind (arith, nat_tests)

pub or_left : (a b : Bool) → a ≡ true → (a || b) ≡ true
or_left true b h = refl
or_left false b h = absurd cc

pub or_last : (a b : Bool) → b ≡ true → (a || b) ≡ true
or_last true b h = refl
or_last false b h = h

pub or_false : (a b : Bool) → (a || b) ≡ false → (a ≡ false) × (b ≡ false)
or_false true b h = absurd cc
or_false false b h = (refl, h)

pub or_case : (a b : Bool) → (a || b) ≡ true → (a ≡ true) ⊎ (b ≡ true)
or_case true b h = inl refl
or_case false b h = inr h

pub or_right : (a : Bool) → (a || true) ≡ true
or_right true = refl
or_right false = refl

pub both : (a b : Bool) → (a && b) ≡ true → (a ≡ true) × (b ≡ true)
both true b h = (refl, h)
both false b h = absurd cc

pub not_both : (b : Bool) → b ≡ true → b ≡ false → ⊥
not_both b t f = cc (t, f)

-- names by their bytes
pub bytes_true : (a b : List ℕ) → bytes_eq a b ≡ true → a ≡ b
bytes_true a b h = (bytes_eq-Decides a b).0 h

pub bytes_self : (a : List ℕ) → bytes_eq a a ≡ true
bytes_self a = (bytes_eq-Decides a a).1 refl

pub bytes_false : (a b : List ℕ) → (a ≡ b → ⊥) → bytes_eq a b ≡ false
bytes_false a b h = go (bytes_eq a b) refl
  where
    go : (v : Bool) → bytes_eq a b ≡ v → bytes_eq a b ≡ false
    go true e = absurd (h (bytes_true a b e))
    go false e = e

-- what the kinds are, and are not
temp_any : (r : ℕ) (e : Entry) → is_temp_of r e ≡ true → is_temp e ≡ true
temp_any r (Temp o k) h = refl
temp_any r _ h = absurd (cc (h))

held_any : (r : ℕ) (e : Entry) → is_held_of r e ≡ true → is_held e ≡ true
held_any r (Held o n) h = refl
held_any r _ h = absurd (cc (h))

temp_quiet : (e : Entry) → is_temp e ≡ true → (is_number e || is_held e) ≡ false
temp_quiet (Temp o k) h = refl
temp_quiet _ h = absurd (cc (h))

temp_unheld : (e : Entry) → is_temp e ≡ true → is_held e ≡ false
temp_unheld (Temp o k) h = refl
temp_unheld _ h = absurd (cc (h))

temp_unnumbered : (e : Entry) → is_temp e ≡ true → is_number e ≡ false
temp_unnumbered (Temp o k) h = refl
temp_unnumbered _ h = absurd (cc (h))

number_unheld : (e : Entry) → is_number e ≡ true → is_held e ≡ false
number_unheld (Number n) h = refl
number_unheld _ h = absurd (cc (h))

number_unown : (e : Entry) → is_number e ≡ true → (is_temp e || is_held e) ≡ false
number_unown (Number n) h = refl
number_unown _ h = absurd (cc (h))

other_quiet : (e : Entry) → is_other e ≡ true → (is_number e || is_held e) ≡ false
other_quiet Other h = refl
other_quiet _ h = absurd (cc (h))

other_unown : (e : Entry) → is_other e ≡ true → (is_temp e || is_held e) ≡ false
other_unown Other h = refl
other_unown _ h = absurd (cc (h))

sequences_quiet : (e : Entry) → is_sequences e ≡ true → (is_number e || is_held e) ≡ false
sequences_quiet Sequences h = refl
sequences_quiet _ h = absurd (cc (h))

sequences_unown : (e : Entry) → is_sequences e ≡ true → (is_temp e || is_held e) ≡ false
sequences_unown Sequences h = refl
sequences_unown _ h = absurd (cc (h))

backup_quiet : (n : ℕ) (e : Entry) → is_backup_of n e ≡ true → (is_number e || is_held e) ≡ false
backup_quiet n (Backup m) h = refl
backup_quiet n _ h = absurd (cc (h))

backup_unown : (n : ℕ) (e : Entry) → is_backup_of n e ≡ true → (is_temp e || is_held e) ≡ false
backup_unown n (Backup m) h = refl
backup_unown n _ h = absurd (cc (h))

taking_number : (r : ℕ) (e h : Entry) → is_taking r e h ≡ true → is_number e ≡ true
taking_number r (Number n) h t = refl
taking_number r _ h t = absurd (cc (t))

hold_held : (r n : ℕ) (h : Entry) → is_hold_of r n h ≡ true → is_held_of r h ≡ true
hold_held r n (Held o m) t = (both (o == r) (m == n) t).0
hold_held r n _ t = absurd (cc (t))

taking_held : (r : ℕ) (e h : Entry) → is_taking r e h ≡ true → is_held_of r h ≡ true
taking_held r (Number n) h t = hold_held r n h t
taking_held r _ h t = absurd (cc (t))

backing_number : (e b : Entry) → is_backing_up e b ≡ true → is_number e ≡ true
backing_number (Number n) b t = refl
backing_number _ b t = absurd (cc (t))

backing_quiet : (e b : Entry) → is_backing_up e b ≡ true → (is_number b || is_held b) ≡ false
backing_quiet (Number n) b t = backup_quiet n b t
backing_quiet _ b t = absurd (cc (t))

backing_unown : (e b : Entry) → is_backing_up e b ≡ true → (is_temp b || is_held b) ≡ false
backing_unown (Number n) b t = backup_unown n b t
backing_unown _ b t = absurd (cc (t))

temp_run : (r o : ℕ) (e : Entry) → is_temp_of r e ≡ true → is_temp_of o e ≡ true → r ≡ o
temp_run r o (Temp q k) h g = sym (num_same q r h) ∙ num_same q o g
temp_run r o _ h g = absurd (cc (h))

held_run : (r o : ℕ) (e : Entry) → is_held_of r e ≡ true → is_held_of o e ≡ true → r ≡ o
held_run r o (Held q n) h g = sym (num_same q r h) ∙ num_same q o g
held_run r o _ h g = absurd (cc (h))

hold_number : (r n m : ℕ) (h : Entry) → is_hold_of r n h ≡ true → is_hold_of r m h ≡ true → n ≡ m
hold_number r n m (Held o k) t u = sym (num_same k n (both (o == r) (k == n) t).1) ∙ num_same k m (both (o == r) (k == m) u).1
hold_number r n m _ t u = absurd (cc (t))

taking_kind : (r : ℕ) (d e h : Entry) → is_taking r d h ≡ true → is_taking r e h ≡ true → d ≡ e
taking_kind r (Number n) (Number m) h t u = ap Number (hold_number r n m h t u)
taking_kind r (Number n) _ h t u = absurd (cc (u))
taking_kind r _ e h t u = absurd (cc (t))

number_some : (e : Entry) → is_number e ≡ true → (n : ℕ) × (e ≡ Number n)
number_some (Number n) h = (n, refl)
number_some _ h = absurd (cc (h))

-- a number's name is its decimal text
not_if : (b : Bool) (d e : Entry) → is_number d ≡ false → is_number e ≡ false → is_number (if b then d else e) ≡ false
not_if true d e p q = p
not_if false d e p q = q

not_by : (make : ℕ → Entry) (o : Option ℕ) → ((n : ℕ) → is_number (make n) ≡ false) → is_number (number_by make o) ≡ false
not_by make None h = refl
not_by make (Some n) h = h n

not_held_after : (run : ℕ) (tail : List ℕ) → is_number (held_after run tail) ≡ false
not_held_after run [] = refl
not_held_after run (c ∷ number) = not_if (c == 95) (number_by (Held run) (number_of number)) Other (not_by (Held run) (number_of number) (λ n. refl)) refl

not_held_by : (o : Option ℕ) (tail : List ℕ) → is_number (held_by o tail) ≡ false
not_held_by None tail = refl
not_held_by (Some run) tail = not_held_after run tail

not_temp_after : (run : ℕ) (tail : List ℕ) → is_number (temp_after run tail) ≡ false
not_temp_after run [] = refl
not_temp_after run (c ∷ count) = not_if (c == 95) (number_by (Temp run) (decimal_of count)) Other (not_by (Temp run) (decimal_of count) (λ n. refl)) refl

not_temp_by : (o : Option ℕ) (tail : List ℕ) → is_number (temp_by o tail) ≡ false
not_temp_by None tail = refl
not_temp_by (Some run) tail = not_temp_after run tail

not_hidden : (rest : List ℕ) → is_number (hidden_in rest) ≡ false
not_hidden rest =
    not_if (bytes_eq rest (codes "mh_sequences")) Sequences _ refl
    (not_if (bytes_eq rest (codes "mh_lock")) LockFile _ refl
    (not_if (bytes_eq (take 8 rest) (codes "mh_held_")) (held_in (drop 8 rest)) _ (not_held_by (run_of (take 32 (drop 8 rest))) (drop 32 (drop 8 rest)))
    (not_if (bytes_eq (take 8 rest) (codes "mh_temp_")) (temp_in (drop 8 rest)) Other (not_temp_by (run_of (take 32 (drop 8 rest))) (drop 32 (drop 8 rest))) refl)))

ranged : (low high : Bool) (n m : ℕ) → (if low && high then Some n else None) ≡ Some m → n ≡ m
ranged true true n m e = cc (e)
ranged true false n m e = absurd (cc (e))
ranged false high n m e = absurd (cc (e))

in_range_is : (o : Option ℕ) (m : ℕ) → in_range o ≡ Some m → o ≡ Some m
in_range_is None m e = absurd (cc (e))
in_range_is (Some n) m e = ap Some (ranged (nat_lt 0 n) (nat_lt n 1000000) n m e)

by_number : (o : Option ℕ) (n : ℕ) → number_by Number o ≡ Number n → o ≡ Some n
by_number None n e = absurd (cc (e))
by_number (Some m) n e = let z : m ≡ n = cc (e) in ap Some z

pub number_text : (x : List ℕ) (n : ℕ) → kind_of x ≡ Number n → x ≡ decimal n
unfolding kind_of
number_text [] n e = absurd (cc (e))
number_text (c ∷ rest) n e = go (c == 44) (c == 46) e
  where
    go : (v u : Bool) → (if v then backup_in rest else (if u then hidden_in rest else number_by Number (number_of (c ∷ rest)))) ≡ Number n → c ∷ rest ≡ decimal n
    go true u e = absurd (not_both (is_number (backup_in rest)) (ap is_number e) (not_by Backup (number_of rest) (λ n. refl)))
    go false true e = absurd (not_both (is_number (hidden_in rest)) (ap is_number e) (not_hidden rest))
    go false false e = (decimal_of_is (c ∷ rest) n (in_range_is (decimal_of (c ∷ rest)) n (by_number (number_of (c ∷ rest)) n e))).1

-- the number of a held name is one name's
pub taking_same : (r : ℕ) (n m h : List ℕ) → is_taking r (kind_of n) (kind_of h) ≡ true → is_taking r (kind_of m) (kind_of h) ≡ true → n ≡ m
taking_same r n m h t u =
    let a = number_some (kind_of n) (taking_number r (kind_of n) (kind_of h) t) in
    let e : kind_of n ≡ kind_of m = taking_kind r (kind_of n) (kind_of m) (kind_of h) t u in
    number_text n a.0 a.1 ∙ sym (number_text m a.0 (sym e ∙ a.1))

-- the same of names
pub is_temp_any : (r : ℕ) (x : List ℕ) → is_temp_of r (kind_of x) ≡ true → is_temp (kind_of x) ≡ true
is_temp_any r x h = temp_any r (kind_of x) h

pub is_held_any : (r : ℕ) (x : List ℕ) → is_held_of r (kind_of x) ≡ true → is_held (kind_of x) ≡ true
is_held_any r x h = held_any r (kind_of x) h

pub is_temp_quiet : (x : List ℕ) → is_temp (kind_of x) ≡ true → is_standing x ≡ false
is_temp_quiet x h = temp_quiet (kind_of x) h

pub is_temp_unheld : (x : List ℕ) → is_temp (kind_of x) ≡ true → is_held (kind_of x) ≡ false
is_temp_unheld x h = temp_unheld (kind_of x) h

pub is_temp_unnumbered : (x : List ℕ) → is_temp (kind_of x) ≡ true → is_number (kind_of x) ≡ false
is_temp_unnumbered x h = temp_unnumbered (kind_of x) h

pub is_number_unheld : (x : List ℕ) → is_number (kind_of x) ≡ true → is_held (kind_of x) ≡ false
is_number_unheld x h = number_unheld (kind_of x) h

pub is_number_unown : (x : List ℕ) → is_number (kind_of x) ≡ true → is_own x ≡ false
is_number_unown x h = number_unown (kind_of x) h

pub number_stands : (x : List ℕ) → is_number (kind_of x) ≡ true → is_standing x ≡ true
number_stands x h = or_left (is_number (kind_of x)) (is_held (kind_of x)) h

pub held_stands : (x : List ℕ) → is_held (kind_of x) ≡ true → is_standing x ≡ true
held_stands x h = or_last (is_number (kind_of x)) (is_held (kind_of x)) h

pub temp_owned : (r : ℕ) (x : List ℕ) → is_temp_of r (kind_of x) ≡ true → is_own_of r x ≡ true
temp_owned r x h = or_left (is_temp_of r (kind_of x)) (is_held_of r (kind_of x)) h

pub held_owned : (r : ℕ) (x : List ℕ) → is_held_of r (kind_of x) ≡ true → is_own_of r x ≡ true
held_owned r x h = or_last (is_temp_of r (kind_of x)) (is_held_of r (kind_of x)) h

pub is_other_quiet : (x : List ℕ) → is_other (kind_of x) ≡ true → is_standing x ≡ false
is_other_quiet x h = other_quiet (kind_of x) h

pub is_other_unown : (x : List ℕ) → is_other (kind_of x) ≡ true → is_own x ≡ false
is_other_unown x h = other_unown (kind_of x) h

pub is_taking_number : (r : ℕ) (n h : List ℕ) → is_taking r (kind_of n) (kind_of h) ≡ true → is_number (kind_of n) ≡ true
is_taking_number r n h t = taking_number r (kind_of n) (kind_of h) t

pub is_taking_held : (r : ℕ) (n h : List ℕ) → is_taking r (kind_of n) (kind_of h) ≡ true → is_held_of r (kind_of h) ≡ true
is_taking_held r n h t = taking_held r (kind_of n) (kind_of h) t

pub is_backing_number : (n b : List ℕ) → is_backing_up (kind_of n) (kind_of b) ≡ true → is_number (kind_of n) ≡ true
is_backing_number n b t = backing_number (kind_of n) (kind_of b) t

pub is_backing_quiet : (n b : List ℕ) → is_backing_up (kind_of n) (kind_of b) ≡ true → is_standing b ≡ false
is_backing_quiet n b t = backing_quiet (kind_of n) (kind_of b) t

pub is_backing_unown : (n b : List ℕ) → is_backing_up (kind_of n) (kind_of b) ≡ true → is_own b ≡ false
is_backing_unown n b t = backing_unown (kind_of n) (kind_of b) t

pub is_temp_run : (r o : ℕ) (x : List ℕ) → is_temp_of r (kind_of x) ≡ true → is_temp_of o (kind_of x) ≡ true → r ≡ o
is_temp_run r o x h g = temp_run r o (kind_of x) h g

pub is_held_run : (r o : ℕ) (x : List ℕ) → is_held_of r (kind_of x) ≡ true → is_held_of o (kind_of x) ≡ true → r ≡ o
is_held_run r o x h g = held_run r o (kind_of x) h g

backup_both : (o : Option ℕ) → ((is_number (number_by Backup o) || is_held (number_by Backup o)) ≡ false) × ((is_temp (number_by Backup o) || is_held (number_by Backup o)) ≡ false)
backup_both None = (refl, refl)
backup_both (Some n) = (refl, refl)

pub original_both : (name : List ℕ) → (is_standing (original_of name) ≡ false) × (is_own (original_of name) ≡ false)
unfolding kind_of
original_both name = backup_both (number_of _)

context_both : (x : List ℕ) → x ≡ codes "context" → (is_standing x ≡ false) × (is_own x ≡ false)
unfolding kind_of decimal_of digits
context_both x e = rw e (refl, refl)

committed_both : (p : Place) (x : List ℕ) → is_committed p x ≡ true → (is_standing x ≡ false) × (is_own x ≡ false)
committed_both Home x h = absurd (cc (h))
committed_both Work x h = absurd (cc (h))
committed_both (Mail path) x h = context_both x (bytes_true x (codes "context") h)
committed_both (Folder path name) x h = (sequences_quiet (kind_of x) h, sequences_unown (kind_of x) h)

pub is_committed_quiet : (p : Place) (x : List ℕ) → is_committed p x ≡ true → is_standing x ≡ false
is_committed_quiet p x h = (committed_both p x h).0

pub is_committed_unown : (p : Place) (x : List ℕ) → is_committed p x ≡ true → is_own x ≡ false
is_committed_unown p x h = (committed_both p x h).1

-- the tests of an own name
pub own_cases : (x : List ℕ) → is_own x ≡ true → (is_temp (kind_of x) ≡ true) ⊎ (is_held (kind_of x) ≡ true)
own_cases x h = or_case (is_temp (kind_of x)) (is_held (kind_of x)) h

held_some : (e : Entry) → is_held e ≡ true → (r : ℕ) × (is_held_of r e ≡ true)
held_some (Held r n) h = (r, num_itself r)
held_some _ h = absurd (cc (h))

pub is_held_some : (x : List ℕ) → is_held (kind_of x) ≡ true → (r : ℕ) × (is_held_of r (kind_of x) ≡ true)
is_held_some x h = held_some (kind_of x) h
