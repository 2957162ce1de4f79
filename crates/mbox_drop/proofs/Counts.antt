-- A counter keeps the counts of a reading.
use Rattle.std.proofs.Common.{◌≡◌, ℕ, ◌+◌, ◌≤◌, ◌<◌, true, false, List, [], ◌∷◌, ◌++◌, length, take, get_or, Option, Some, None, refl, sym, ap, ◌∙◌, subst, append_assoc, arith}
use Rattle.std.proofs.lemmas.Bool.{false≢true}
use Rattle.std.proofs.lemmas.List.{append-nil, length-append, length-take, length_push, take_more, take_all}
use Rattle.mbox_drop.specs.Drops.{messages, is_drop}
use Rattle.mbox_drop.specs.Places.{turn, ended, stage_of}
use Rattle.mbox_drop.specs.declared.place.Stage.{Stage}
use Rattle.mbox_drop.specs.declared.place.Stage.TheVariants.{Unread, NoDrop, Begun}
use Rattle.mbox_drop.specs.Readings.{Reading, at, took, read, unread, reading}
use Rattle.std.specs.Option.{option_or}
use Rattle.mbox_drop.specs.Long.{first_long, long_of}
use Rattle.mbox_drop.specs.Counting.{counted, Counts, HasCounted}
use Rattle.mbox_drop.proofs.KnownBytes.{is_begun_at, Staged, staged, messages-none, read-push, Knows, IsBegun, knows}
use Rattle.mbox_drop.specs.declared.counter.DropCounter.{DropCounter}
use Rattle.mbox_drop.specs.declared.place.Match.TheVariants.{Nothing, F, Fr, Fro, From}
use Rattle.mbox_drop.specs.declared.place.DropState.{DropState}
use Rattle.mbox_drop.specs.declared.place.DropState.TheVariants.{First, Lost, Separator, Start, Return, Middle, Blank}
use Rattle.mbox_drop.specs.declared.place.Turn.{Turn}
use Rattle.mbox_drop.specs.declared.place.Turn.TheVariants.{Joins, Empties, Begins, Passes}
use Rattle.mh_base.specs.Counts.{one_more}

option_or-none : (o : Option ℕ) → option_or o None ≡ o
option_or-none None = refl
option_or-none (Some n) = refl

pub option_or-option_or : (a b c : Option ℕ) → option_or a (option_or b c) ≡ option_or (option_or a b) c
option_or-option_or None b c = refl
option_or-option_or (Some n) b c = refl

pub first_long-push : (xs : List (List ℕ)) (x : List ℕ) → first_long (xs ++ x ∷ []) ≡ option_or (first_long xs) (long_of (length x))
first_long-push [] x = option_or-none (long_of (length x))
first_long-push (y ∷ xs) x = ap (λ o. option_or (long_of (length y)) o) (first_long-push xs x) ∙ option_or-option_or (long_of (length y)) (first_long xs) (long_of (length x))

-- neither the bytes in hand nor the messages are more than the bytes
took_sized : (s : Reading) (b : ℕ) (t : Turn) (n : ℕ) → length s.hand + length s.done ≤ n → length (took s b t).hand + length (took s b t).done ≤ n + 1
took_sized s b (Joins p) n h = omega (arith, length_push s.hand b)
took_sized s b (Empties p) n h = omega (arith, length_push s.hand b)
took_sized s b Begins n h = omega (arith, length_push s.done s.body)
took_sized s b (Passes p) n h = omega arith

pub read_sized : (bs : List ℕ) (s : Reading) (n : ℕ) → length s.hand + length s.done ≤ n → length (read s bs).hand + length (read s bs).done ≤ n + length bs
unfolding read
read_sized [] s n h = omega arith
read_sized (b ∷ bs) s n h =
    let k : length (read (took s b (turn s.place b)) bs).hand + length (read (took s b (turn s.place b)) bs).done ≤ (n + 1) + length bs =
    read_sized bs (took s b (turn s.place b)) (n + 1) (took_sized s b (turn s.place b) n h) in
    omega arith

pub reading_sized : (d : List ℕ) → length (reading d).hand + length (reading d).done ≤ length d
reading_sized d =
    let k : length (read unread d).hand + length (read unread d).done ≤ 0 + length d = read_sized d unread 0 (omega arith) in omega arith

one_more-below : (n : ℕ) → n ≤ 268435456 → one_more n ≡ n + 1
one_more-below n h = omega arith

counted_took : (c : DropCounter) (s : Reading) (b : ℕ) (t : Turn) → length s.hand + length s.done ≤ 268435456 → Counts c s → Counts (counted c t) (took s b t)
counted_took c s b (Joins p) h k = record {
  place = refl;
  size = one_more-below c.size (omega arith) ∙ ap (λ n. n + 1) k.size ∙ sym (length_push s.hand b);
  body = k.body;
  count = k.count;
  long = k.long;
}
counted_took c s b (Empties p) h k = record {
  place = refl;
  size = one_more-below c.size (omega arith) ∙ ap (λ n. n + 1) k.size ∙ sym (length_push s.hand b);
  body = k.size;
  count = k.count;
  long = k.long;
}
counted_took c s b Begins h k = record {
  place = refl;
  size = refl;
  body = refl;
  count = one_more-below c.count (omega arith) ∙ ap (λ n. n + 1) k.count ∙ sym (length_push s.done s.body);
  long = ap (λ o. option_or o (long_of c.body)) k.long ∙ ap (λ n. option_or (first_long s.done) (long_of n)) k.body ∙ sym (first_long-push s.done s.body);
}
counted_took c s b (Passes p) h k = record { place = refl; size = k.size; body = k.body; count = k.count; long = k.long }

pub counted_more : (c : DropCounter) (d : List ℕ) (b : ℕ) → length d ≤ 268435456 → Counts c (reading d) → Counts (counted c (turn c.place b)) (reading (d ++ b ∷ []))
counted_more c d b h k =
    let sized : length (reading d).hand + length (reading d).done ≤ length d = reading_sized d in
    let e : took (reading d) b (turn c.place b) ≡ reading (d ++ b ∷ []) = ap (λ p. took (reading d) b (turn p b)) k.place ∙ sym (read-push unread d b) in
    subst (λ s. Counts (counted c (turn c.place b)) s) e (counted_took c (reading d) b (turn c.place b) (omega arith) k)

-- the loop over a piece
pub record CountsOn (from c : DropCounter) (piece : List ℕ) (i : ℕ) : Type 0 where
  pub far : (d : List ℕ) → length d + length piece ≤ 268435456 → Counts from (reading d) → Counts c (reading (d ++ take i piece))

pub counts_none : (c : DropCounter) (piece : List ℕ) → CountsOn c c piece 0
counts_none c piece = record { far = λ d h k. subst (λ x. Counts c (reading x)) (sym (append-nil d)) k }

pub counts_more : (from c : DropCounter) (piece : List ℕ) (i : ℕ) → i < length piece → CountsOn from c piece i → CountsOn from (counted c (turn c.place (get_or piece i 0))) piece (i + 1)
counts_more from c piece i h k = record {
  far = λ d room start.
      let b : ℕ = get_or piece i 0 in
      let short : length (d ++ take i piece) ≤ 268435456 = simp (length-append, length-take) (omega arith) in
      let e : (d ++ take i piece) ++ b ∷ [] ≡ d ++ take (i + 1) piece = append_assoc d (take i piece) (b ∷ []) ∙ ap (λ x. d ++ x) (sym (take_more piece i 0 h)) in
      subst (λ x. Counts (counted c (turn c.place b)) (reading x)) e (counted_more c (d ++ take i piece) b short (k.far d room start));
}

pub counts_all : (from c : DropCounter) (piece : List ℕ) (i : ℕ) → length piece ≤ i → CountsOn from c piece i →
    (d : List ℕ) → length d + length piece ≤ 268435456 → HasCounted from d → HasCounted c (d ++ piece)
counts_all from c piece i h k d room start = record {
  few = rw length-append room;
  counts = subst (λ x. Counts c (reading (d ++ x))) (take_all i piece h) (k.far d room start.counts);
}

pub counted_end : (c : DropCounter) (d : List ℕ) → HasCounted c d → Begun ≡ stage_of c.place → one_more c.count ≡ length (messages d)
counted_end c d h e =
    let few : length d ≤ 268435456 = h.few in
    let k : Counts c (reading d) = h.counts in
    let sized : length (reading d).hand + length (reading d).done ≤ length d = reading_sized d in
    let b : IsBegun d (reading d) = is_begun_at d c.place k.place e in
    one_more-below c.count (omega arith) ∙ ap (λ n. n + 1) k.count ∙ sym (length_push (reading d).done _) ∙ ap length (sym b.whole_is)

ended-length : (place : DropState) (body hand : List ℕ) → ended place (length body) (length hand) ≡ length (ended place body hand)
ended-length (First m) body hand = refl
ended-length Lost body hand = refl
ended-length Separator body hand = refl
ended-length Start body hand = refl
ended-length Return body hand = refl
ended-length Middle body hand = refl
ended-length (Blank Nothing) body hand = refl
ended-length (Blank F) body hand = refl
ended-length (Blank Fr) body hand = refl
ended-length (Blank Fro) body hand = refl
ended-length (Blank From) body hand = refl

pub ended_is : (c : DropCounter) (s : Reading) → Counts c s → ended c.place c.body c.size ≡ length (ended s.place s.body s.hand)
ended_is c s k =
    ap (λ p. ended p c.body c.size) k.place ∙ ap (λ n. ended s.place n c.size) k.body ∙ ap (λ n. ended s.place (length s.body) n) k.size ∙ ended-length s.place s.body s.hand

long_none : (c : DropCounter) → Counts c (reading []) → option_or c.long (long_of (ended c.place c.body c.size)) ≡ first_long (messages [])
unfolding read
long_none c h =
    ap (λ o. option_or o (long_of (ended c.place c.body c.size))) h.long ∙ ap (λ n. long_of n) (ended_is c (reading []) h) ∙ ap first_long (sym messages-none)

long_is : (stage : Stage) (c : DropCounter) (d : List ℕ) → Counts c (reading d) → Staged stage d (reading d) → is_drop d ≡ true →
    option_or c.long (long_of (ended c.place c.body c.size)) ≡ first_long (messages d)
long_is Unread c d h k drop =
    ap (λ x. x) (long_none c (subst (λ x. Counts c (reading x)) k h)) ∙ ap (λ x. first_long (messages x)) (sym k)
long_is NoDrop c d h k drop = absurd (false≢true (sym k ∙ drop))
long_is Begun c d h k drop =
    ap (λ o. option_or o (long_of (ended c.place c.body c.size))) h.long
    ∙ ap (λ n. option_or (first_long (reading d).done) (long_of n)) (ended_is c (reading d) h)
    ∙ sym (first_long-push (reading d).done (ended (reading d).place (reading d).body (reading d).hand))
    ∙ ap first_long (sym k.whole_is)

pub counted_long : (c : DropCounter) (d : List ℕ) → HasCounted c d → is_drop d ≡ true →
    option_or c.long (long_of (ended c.place c.body c.size)) ≡ first_long (messages d)
counted_long c d h drop = long_is (stage_of c.place) c d h.counts (staged (stage_of c.place) d c.place h.counts.place refl) drop

-- before a separator there is nothing to count
empty_long : (c : DropCounter) (place : DropState) → ended {A = List ℕ} place [] [] ≡ [] → Counts c (at [] [] [] place) → option_or c.long (long_of (ended c.place c.body c.size)) ≡ None
empty_long c place e h =
    ap (λ o. option_or o (long_of (ended c.place c.body c.size))) h.long ∙ ap (λ n. long_of n) (ended_is c (at [] [] [] place) h) ∙ ap (λ x. long_of (length x)) e

no_long_at : (place : DropState) (c : DropCounter) (d : List ℕ) (s : Reading) → Knows place d s → Counts c s → is_drop d ≡ false → option_or c.long (long_of (ended c.place c.body c.size)) ≡ None
no_long_at (First m) c d s k h e = empty_long c (First m) refl (subst (λ x. Counts c x) k.reading_is h)
no_long_at Lost c d s k h e = empty_long c Lost refl (subst (λ x. Counts c x) k.reading_is h)
no_long_at Separator c d s k h e = absurd (false≢true (sym e ∙ k.drop))
no_long_at Start c d s k h e = absurd (false≢true (sym e ∙ k.drop))
no_long_at Return c d s k h e = absurd (false≢true (sym e ∙ k.drop))
no_long_at Middle c d s k h e = absurd (false≢true (sym e ∙ k.drop))
no_long_at (Blank m) c d s k h e = absurd (false≢true (sym e ∙ k.drop))

pub counted_no_long : (c : DropCounter) (d : List ℕ) → HasCounted c d → is_drop d ≡ false → option_or c.long (long_of (ended c.place c.body c.size)) ≡ None
counted_no_long c d h e = no_long_at (reading d).place c d (reading d) (knows d) h.counts e
