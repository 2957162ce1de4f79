-- The bytes with which a drop begins that has no message that is too long: a cutter takes them.
use Rattle.std.proofs.Common.{◌≡◌, ◌≤◌, ◌+◌, ◌++◌, ◌∷◌, [], ℕ, Bool, true, false, List, Option, Some, None, Ok, length, drop, take, refl, sym, ◌∙◌, ap, subst, inl, inr, arith, append_assoc}
use Rattle.std.specs.Prelude.{nat_lt, ◌==◌, if◌then◌else◌}
use Rattle.std.specs.Option.{option_or}
use Rattle.std.proofs.lemmas.Bool.{false≢true}
use Rattle.std.proofs.lemmas.Bool.Decides.{nat_tests}
use Rattle.std.proofs.lemmas.List.{length_push, take-append-drop}
use Rattle.mbox_drop.specs.Drops.{finished, is_drop, messages, open_bytes}
use Rattle.mbox_drop.specs.Long.{first_long, long_of, overlong_of}
use Rattle.mbox_drop.specs.Places.{ended, is_lost, stage_of, turn}
use Rattle.mbox_drop.specs.Readings.{Reading, all_of, at, read, reading, took, unread}
use Rattle.mbox_drop.specs.declared.place.Match.{Match}
use Rattle.mbox_drop.specs.declared.place.Match.TheVariants.{Nothing, F, Fr, Fro, From}
use Rattle.mbox_drop.specs.declared.place.DropState.{DropState}
use Rattle.mbox_drop.specs.declared.place.DropState.TheVariants.{First, Lost, Separator, Start, Return, Middle, Blank}
use Rattle.mbox_drop.specs.declared.place.Stage.{Stage}
use Rattle.mbox_drop.specs.declared.place.Stage.TheVariants.{Unread, NoDrop, Begun}
use Rattle.mbox_drop.specs.declared.place.Turn.{Turn}
use Rattle.mbox_drop.specs.declared.place.Turn.TheVariants.{Joins, Empties, Begins, Passes}
use Rattle.mbox_drop.proofs.Cuttings.{lost, sound}
use Rattle.mbox_drop.proofs.KnownBytes.{IsLost, IsStart, Knows, Staged, knows, read-append, staged}
use Rattle.mbox_drop.proofs.Sectioning.{split, text_of, more, whole, broken, grows}
use Rattle.inc_plans.specs.Cutting.{given_by, if_drop, last_by, last_in, new_in, short_last, short_only, unless_lost}

-- messages of which none is too long
first_none : (o r : Option ℕ) → option_or o r ≡ None → (o ≡ None) × (r ≡ None)
first_none None r e = (refl, e)
first_none (Some n) r e = cc (e)

none_first : (o r : Option ℕ) → o ≡ None → r ≡ None → option_or o r ≡ None
none_first None r e f = f
none_first (Some n) r e f = cc (e)

short_front : (xs ys : List (List ℕ)) → first_long (xs ++ ys) ≡ None → first_long xs ≡ None
short_front [] ys e = refl
short_front (x ∷ xs) ys e = let both = first_none (long_of (length x)) (first_long (xs ++ ys)) e in none_first (long_of (length x)) (first_long xs) both.0 (short_front xs ys both.1)

short_back : (xs ys : List (List ℕ)) → first_long (xs ++ ys) ≡ None → first_long ys ≡ None
short_back [] ys e = e
short_back (x ∷ xs) ys e = let both = first_none (long_of (length x)) (first_long (xs ++ ys)) e in short_back xs ys both.1

short_drop : (k : ℕ) (xs : List (List ℕ)) → first_long xs ≡ None → first_long (drop k xs) ≡ None
short_drop k xs e = short_back (take k xs) (drop k xs) (ap first_long (take-append-drop k xs) ∙ e)

short_of : (n : ℕ) → long_of n ≡ None → n ≤ 67108864
short_of n e = go (nat_lt 67108864 n) refl e
  where
    go : (b : Bool) → nat_lt 67108864 n ≡ b → (if b then Some n else None) ≡ None → n ≤ 67108864
    go true f e = cc (e)
    go false f e = grind (arith, nat_tests, f)

not_overlong : (n : ℕ) → n ≤ 67108871 → overlong_of n ≡ None
not_overlong n le = go (nat_lt 67108871 n) refl
  where
    go : (b : Bool) → nat_lt 67108871 n ≡ b → (if b then Some n else None) ≡ None
    go true f = absurd (grind (arith, nat_tests, f, le))
    go false f = refl

-- how much longer than the bytes before the last empty line those in hand may be
abbrev IsNear : DropState → ℕ → ℕ → Type 0
IsNear (First m) body hand = Unit {0}
IsNear Lost body hand = Unit {0}
IsNear Separator body hand = Unit {0}
IsNear Start body hand = Unit {0}
IsNear Return body hand = hand ≤ body + 1
IsNear Middle body hand = Unit {0}
IsNear (Blank m) body hand = hand ≤ body + 2 + length (text_of m)

abbrev Near : Reading → Type 0
Near s = IsNear s.place (length s.body) (length s.hand)

near_start : (s : Reading) (b : ℕ) → Near (took s b (turn Start b))
near_start s b = elim (split (b == 10)) [
  | inl e ↦ rw e (rw (length_push s.hand b) (omega arith))
  | inr e ↦ elim (split (b == 13)) [ inl f ↦ rw (e, f) (rw (length_push s.hand b) (omega arith)) | inr f ↦ rw (e, f) tt ]
]

near_middle : (s : Reading) (b : ℕ) → Near (took s b (turn Middle b))
near_middle s b = elim (split (b == 10)) [ inl e ↦ rw e tt | inr e ↦ rw e tt ]

longer : (m n : Match) (b : ℕ) (s : Reading) → text_of n ≡ text_of m ++ b ∷ [] → length s.hand ≤ length s.body + 2 + length (text_of m) → length (s.hand ++ b ∷ []) ≤ length s.body + 2 + length (text_of n)
longer m n b s x le =
    let one = length_push s.hand b in
    let two : length (text_of n) ≡ length (text_of m) + 1 = ap length x ∙ length_push (text_of m) b in
    omega (arith, le, one, two)

near_blank : (m : Match) (s : Reading) (b : ℕ) → IsNear (Blank m) (length s.body) (length s.hand) → Near (took s b (turn (Blank m) b))
near_blank Nothing s b le = elim (grows Nothing b) [ more n g x ↦ rw g (longer Nothing n b s x le) | whole g x ↦ rw g tt | broken g k ↦ rw g (near_start s b) ]
near_blank F s b le = elim (grows F b) [ more n g x ↦ rw g (longer F n b s x le) | whole g x ↦ rw g tt | broken g k ↦ rw g (near_middle s b) ]
near_blank Fr s b le = elim (grows Fr b) [ more n g x ↦ rw g (longer Fr n b s x le) | whole g x ↦ rw g tt | broken g k ↦ rw g (near_middle s b) ]
near_blank Fro s b le = elim (grows Fro b) [ more n g x ↦ rw g (longer Fro n b s x le) | whole g x ↦ rw g tt | broken g k ↦ rw g (near_middle s b) ]
near_blank From s b le = elim (grows From b) [ more n g x ↦ rw g (longer From n b s x le) | whole g x ↦ rw g tt | broken g k ↦ rw g (near_middle s b) ]

near_first : (m : Match) (s : Reading) (b : ℕ) → Near (took s b (turn (First m) b))
near_first m s b = elim (grows m b) [ more n g x ↦ rw g tt | whole g x ↦ rw g tt | broken g k ↦ rw g tt ]

near_took : (place : DropState) (s : Reading) (b : ℕ) → IsNear place (length s.body) (length s.hand) → Near (took s b (turn place b))
near_took (First m) s b le = near_first m s b
near_took Lost s b le = tt
near_took Separator s b le = elim (split (b == 10)) [ inl e ↦ rw e tt | inr e ↦ rw e tt ]
near_took Start s b le = near_start s b
near_took Return s b le = elim (split (b == 10)) [ inl e ↦ rw e (let one = length_push s.hand b in omega (arith, one, le)) | inr e ↦ rw e tt ]
near_took Middle s b le = near_middle s b
near_took (Blank m) s b le = near_blank m s b le

near_read : (bs : List ℕ) (s : Reading) → Near s → Near (read s bs)
unfolding read
near_read [] s le = le
near_read (b ∷ bs) s le = near_read bs (took s b (turn s.place b)) (near_took s.place s b le)

-- a separator begins in a line after an empty one
few_of : (m : Match) → length (text_of m) ≤ 4
few_of Nothing = omega arith
few_of F = omega arith
few_of Fr = omega arith
few_of Fro = omega arith
few_of From = omega arith

abbrev is_begins : Turn → Bool
is_begins (Joins place) = false
is_begins (Empties place) = false
is_begins Begins = true
is_begins (Passes place) = false

start_no : (b : ℕ) → is_begins (turn Start b) ≡ false
start_no b = elim (split (b == 10)) [ inl e ↦ rw e refl | inr e ↦ elim (split (b == 13)) [ inl f ↦ rw (e, f) refl | inr f ↦ rw (e, f) refl ] ]

first_no : (m : Match) (b : ℕ) → is_begins (turn (First m) b) ≡ false
first_no m b = elim (grows m b) [ more n g x ↦ rw g refl | whole g x ↦ rw g refl | broken g k ↦ rw g refl ]

return_no : (b : ℕ) → is_begins (turn Return b) ≡ false
return_no b = elim (split (b == 10)) [ inl e ↦ rw e refl | inr e ↦ rw e refl ]

separator_no : (b : ℕ) → is_begins (turn Separator b) ≡ false
separator_no b = elim (split (b == 10)) [ inl e ↦ rw e refl | inr e ↦ rw e refl ]

middle_no : (b : ℕ) → is_begins (turn Middle b) ≡ false
middle_no b = elim (split (b == 10)) [ inl e ↦ rw e refl | inr e ↦ rw e refl ]

begins_near : (place : DropState) (b body hand : ℕ) → IsNear place body hand → is_begins (turn place b) ≡ true → hand ≤ body + 7
begins_near (First m) b body hand le e = absurd (false≢true (sym (first_no m b) ∙ e))
begins_near Lost b body hand le e = cc (e)
begins_near Separator b body hand le e = absurd (false≢true (sym (separator_no b) ∙ e))
begins_near Start b body hand le e = absurd (false≢true (sym (start_no b) ∙ e))
begins_near Return b body hand le e = absurd (false≢true (sym (return_no b) ∙ e))
begins_near Middle b body hand le e = absurd (false≢true (sym (middle_no b) ∙ e))
begins_near (Blank m) b body hand le e = let few = few_of m in omega (arith, le, few)

ends_near : (place : DropState) (body hand : List ℕ) → IsNear place (length body) (length hand) → length hand ≤ length (ended place body hand) + 7
ends_near (First m) body hand le = omega arith
ends_near Lost body hand le = omega arith
ends_near Separator body hand le = omega arith
ends_near Start body hand le = omega arith
ends_near Return body hand le = omega arith
ends_near Middle body hand le = omega arith
ends_near (Blank Nothing) body hand le = omega (arith, le)
ends_near (Blank F) body hand le = omega arith
ends_near (Blank Fr) body hand le = omega arith
ends_near (Blank Fro) body hand le = omega arith
ends_near (Blank From) body hand le = omega arith

-- of these messages one comes behind the finished ones, and it has all but a few of the bytes in hand
record Comes (s : Reading) (all : List (List ℕ)) : Type 0 where
  pub message : List ℕ
  pub later : List (List ℕ)
  pub is : all ≡ s.done ++ message ∷ later
  pub near : length s.hand ≤ length message + 7

comes_on : (s : Reading) (b : ℕ) (all : List (List ℕ)) (t : Turn) → turn s.place b ≡ t → Near s → Comes (took s b t) all → Comes s all
comes_on s b all (Joins place) e near c =
    let one = length_push s.hand b in
    let l = c.near in
    record { message = c.message; later = c.later; is = c.is; near = omega (arith, one, l) }
comes_on s b all (Empties place) e near c =
    let one = length_push s.hand b in
    let l = c.near in
    record { message = c.message; later = c.later; is = c.is; near = omega (arith, one, l) }
comes_on s b all Begins e near c =
    record { message = s.body; later = c.message ∷ c.later; is = c.is ∙ append_assoc s.done (s.body ∷ []) (c.message ∷ c.later); near = begins_near s.place b (length s.body) (length s.hand) near (ap is_begins e) }
comes_on s b all (Passes place) e near c = record { message = c.message; later = c.later; is = c.is; near = c.near }

comes : (bs : List ℕ) (s : Reading) → Near s → Comes s (all_of (read s bs))
unfolding read
comes [] s near = record { message = ended s.place s.body s.hand; later = []; is = refl; near = ends_near s.place s.body s.hand near }
comes (b ∷ bs) s near =
    comes_on s b (all_of (read (took s b (turn s.place b)) bs)) (turn s.place b) refl near (comes bs (took s b (turn s.place b)) (near_took s.place s b near))

first_is : (m : Match) (d : List ℕ) (s : Reading) → IsStart m d s → s ≡ at [] [] [] (First m)
first_is m d s k = k.reading_is

lost_is : (d : List ℕ) (s : Reading) → IsLost d s → s ≡ at [] [] [] Lost
lost_is d s k = k.reading_is

-- none of a reading's messages is too long where none of the drop's is
all_short : (place : DropState) (d : List ℕ) (s : Reading) → Knows place d s → first_long (messages d) ≡ None → first_long (all_of s) ≡ None
all_short (First m) d s k e = subst (λ x. first_long (all_of x) ≡ None) (sym (first_is m d s k)) refl
all_short Lost d s k e = subst (λ x. first_long (all_of x) ≡ None) (sym (lost_is d s k)) refl
all_short Separator d s k e = ap first_long (sym k.whole_is) ∙ e
all_short Start d s k e = ap first_long (sym k.whole_is) ∙ e
all_short Return d s k e = ap first_long (sym k.whole_is) ∙ e
all_short Middle d s k e = ap first_long (sym k.whole_is) ∙ e
all_short (Blank m) d s k e = ap first_long (sym k.whole_is) ∙ e

-- a drop without a message that is too long, and bytes with which it begins
module _ (d : List ℕ) (is_one : is_drop d ≡ true) (short : first_long (messages d) ≡ None) where
  module _ (front rest : List ℕ) (parts : d ≡ front ++ rest) where
    pub front_found : is_lost (reading front).place ≡ false
    front_found = go (is_lost (reading front).place) refl
      where
        go : (b : Bool) → is_lost (reading front).place ≡ b → b ≡ false
        go true e = absurd (lost front e (rest, ap is_drop (sym parts) ∙ is_one))
        go false e = refl

    later : Comes (reading front) (all_of (reading d))
    later = subst (λ x. Comes (reading front) (all_of x)) (sym (ap reading parts ∙ read-append unread front rest)) (comes rest (reading front) (near_read front unread tt))

    all_few : first_long ((reading front).done ++ later.message ∷ later.later) ≡ None
    all_few = ap first_long (sym later.is) ∙ all_short (reading d).place d (reading d) (knows d) short

    pub finished_short : first_long (finished front) ≡ None
    finished_short = ap first_long (sound front front_found).done_is ∙ short_front (reading front).done (later.message ∷ later.later) all_few

    pub open_short : overlong_of (length (open_bytes front)) ≡ None
    open_short =
        let one = first_none (long_of (length later.message)) (first_long later.later) (short_back (reading front).done (later.message ∷ later.later) all_few) in
        let few = short_of (length later.message) one.0 in
        let near = later.near in
        ap (λ x. overlong_of (length x)) (sound front front_found).hand_is ∙ not_overlong (length (reading front).hand) (omega (arith, few, near))

  -- a piece of it finishes what it finishes
  pub piece_gives : (before piece rest : List ℕ) → d ≡ (before ++ piece) ++ rest → given_by before piece ≡ Ok (new_in before piece)
  piece_gives before piece rest parts =
      ap (λ b. unless_lost b before piece) (front_found (before ++ piece) rest parts)
      ∙ ap (λ o. short_only o (new_in before piece)) (none_first (first_long (new_in before piece)) (overlong_of (length (open_bytes (before ++ piece))))
      (short_drop (length (finished before)) (finished (before ++ piece)) (finished_short (before ++ piece) rest parts)) (open_short (before ++ piece) rest parts))

  -- and so does its end
  pub end_gives : (last : Option (List ℕ)) × (last_by d ≡ Ok last)
  end_gives =
      let l = last_of (drop (length (finished d)) (messages d)) (short_drop (length (finished d)) (messages d) short) in
      (l.0, ap (λ b. if_drop b d) is_one ∙ l.1)
    where
      last_of : (xs : List (List ℕ)) → first_long xs ≡ None → (last : Option (List ℕ)) × (last_in xs ≡ Ok last)
      last_of [] e = (None, refl)
      last_of (m ∷ more_) e = (Some m, ap (λ o. short_last o m) (first_none (long_of (length m)) (first_long more_) e).0)

-- a drop with any bytes has a message
pub some_messages : (d : List ℕ) → is_drop d ≡ true → 1 ≤ length d → 1 ≤ length (messages d)
some_messages d is_one some = go (stage_of (reading d).place) (staged (stage_of (reading d).place) d (reading d).place refl refl)
  where
    go : (stage : Stage) → Staged stage d (reading d) → 1 ≤ length (messages d)
    go Unread none = absurd (let long = ap length none in omega (arith, some, long))
    go NoDrop never = absurd (false≢true (sym never ∙ is_one))
    go Begun k = let long = ap length k.whole_is ∙ length_push (reading d).done (ended (reading d).place (reading d).body (reading d).hand) in omega (arith, long)
