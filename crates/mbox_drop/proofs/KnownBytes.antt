-- What a reading knows of its bytes.
use Rattle.std.proofs.Common.{◌≡◌, ℕ, ◌-◌, Bool, true, false, List, [], ◌∷◌, ◌++◌, length, take, refl, sym, ap, ◌∙◌, subst, inl, inr, append_assoc, arith}
use Rattle.std.specs.Prelude.{◌==◌, codes}
use Rattle.std.proofs.lemmas.List.{append-nil, length_push, take_at}
use Rattle.mbox_drop.specs.Drops.{lines, sections, parts, begins_from, messages, is_drop, finished, open_bytes}
use Rattle.mbox_drop.specs.Places.{turn, first_stage, stage_of}
use Rattle.mbox_drop.specs.Readings.{Reading, at, took, read, reading, all_of}
use Rattle.mbox_drop.proofs.Sectioning.{split, text_of, more, whole, broken, grows, from_shows}
use Rattle.mbox_drop.specs.declared.place.Match.{Match}
use Rattle.mbox_drop.specs.declared.place.Match.TheVariants.{Nothing, F, Fr, Fro, From}
use Rattle.mbox_drop.specs.declared.place.DropState.{DropState}
use Rattle.mbox_drop.specs.declared.place.DropState.TheVariants.{First, Lost, Separator, Start, Return, Middle, Blank}
use Rattle.mbox_drop.specs.declared.place.Stage.{Stage}
use Rattle.mbox_drop.specs.declared.place.Stage.TheVariants.{Unread, NoDrop, Begun}
use Rattle.mbox_drop.specs.declared.place.Turn.{Turn}
use Rattle.mbox_drop.specs.declared.place.Turn.TheVariants.{Passes}

pub read-append : (s : Reading) (xs ys : List ℕ) → read s (xs ++ ys) ≡ read (read s xs) ys
unfolding read
read-append s [] ys = refl
read-append s (x ∷ xs) ys = read-append (took s x (turn s.place x)) xs ys

pub read-push : (s : Reading) (xs : List ℕ) (b : ℕ) → read s (xs ++ b ∷ []) ≡ took (read s xs) b (turn (read s xs).place b)
unfolding read
read-push s xs b = read-append s xs (b ∷ [])

-- in a message or in a separator line
abbrev pub is_begun : DropState → Bool
is_begun (First m) = false
is_begun Lost = false
is_begun Separator = true
is_begun Start = true
is_begun Return = true
is_begun Middle = true
is_begun (Blank m) = true

start_begun : (s : Reading) (b : ℕ) → is_begun (took s b (turn Start b)).place ≡ true
start_begun s b = elim (split (b == 10)) [ inl e ↦ rw e refl | inr e ↦ elim (split (b == 13)) [ inl f ↦ rw (e, f) refl | inr f ↦ rw (e, f) refl ] ]

middle_begun : (s : Reading) (b : ℕ) → is_begun (took s b (turn Middle b)).place ≡ true
middle_begun s b = elim (split (b == 10)) [ inl e ↦ rw e refl | inr e ↦ rw e refl ]

blank_begun : (m : Match) (s : Reading) (b : ℕ) → is_begun (took s b (turn (Blank m) b)).place ≡ true
blank_begun Nothing s b = elim (grows Nothing b) [ more n g x ↦ rw g refl | whole g x ↦ rw g refl | broken g k ↦ rw g (start_begun s b) ]
blank_begun F s b = elim (grows F b) [ more n g x ↦ rw g refl | whole g x ↦ rw g refl | broken g k ↦ rw g (middle_begun s b) ]
blank_begun Fr s b = elim (grows Fr b) [ more n g x ↦ rw g refl | whole g x ↦ rw g refl | broken g k ↦ rw g (middle_begun s b) ]
blank_begun Fro s b = elim (grows Fro b) [ more n g x ↦ rw g refl | whole g x ↦ rw g refl | broken g k ↦ rw g (middle_begun s b) ]
blank_begun From s b = elim (grows From b) [ more n g x ↦ rw g refl | whole g x ↦ rw g refl | broken g k ↦ rw g (middle_begun s b) ]

took_begun : (place : DropState) (s : Reading) (b : ℕ) → is_begun place ≡ true → is_begun (took s b (turn place b)).place ≡ true
took_begun (First m) s b h = cc
took_begun Lost s b h = cc
took_begun Separator s b h = elim (split (b == 10)) [ inl e ↦ rw e refl | inr e ↦ rw e refl ]
took_begun Start s b h = start_begun s b
took_begun Return s b h = elim (split (b == 10)) [ inl e ↦ rw e refl | inr e ↦ rw e refl ]
took_begun Middle s b h = middle_begun s b
took_begun (Blank m) s b h = blank_begun m s b

pub read_begun : (bs : List ℕ) (s : Reading) → is_begun s.place ≡ true → is_begun (read s bs).place ≡ true
unfolding read
read_begun [] s h = h
read_begun (b ∷ bs) s h = read_begun bs (took s b (turn s.place b)) (took_begun s.place s b h)

read_lost : (bs : List ℕ) → read (at [] [] [] Lost) bs ≡ at [] [] [] Lost
unfolding read
read_lost [] = refl
read_lost (b ∷ bs) = read_lost bs

-- what is known once a separator has begun
pub record IsBegun (d : List ℕ) (s : Reading) : Type 0 where
  pub drop : is_drop d ≡ true
  pub whole_is : messages d ≡ all_of s
  pub done_is : finished d ≡ s.done
  pub open_is : open_bytes d ≡ s.hand

-- a beginning of a separator
pub record IsStart (m : Match) (d : List ℕ) (s : Reading) : Type 0 where
  pub text_is : d ≡ text_of m
  pub reading_is : s ≡ at [] [] [] (First m)

pub record IsLost (d : List ℕ) (s : Reading) : Type 0 where
  pub no_drop : (rest : List ℕ) → is_drop (d ++ rest) ≡ false
  pub reading_is : s ≡ at [] [] [] Lost

abbrev pub Knows : DropState → List ℕ → Reading → Type 0
Knows (First m) d s = IsStart m d s
Knows Lost d s = IsLost d s
Knows Separator d s = IsBegun d s
Knows Start d s = IsBegun d s
Knows Return d s = IsBegun d s
Knows Middle d s = IsBegun d s
Knows (Blank m) d s = IsBegun d s

knows_begun : (place : DropState) (d : List ℕ) (s : Reading) → is_begun place ≡ true → IsBegun d s → Knows place d s
knows_begun (First m) d s h k = cc
knows_begun Lost d s h k = cc
knows_begun Separator d s h k = k
knows_begun Start d s h k = k
knows_begun Return d s h k = k
knows_begun Middle d s h k = k
knows_begun (Blank m) d s h k = k

pub take_front : (xs : List (List ℕ)) (x : List ℕ) → take (length (xs ++ x ∷ []) - 1) (xs ++ x ∷ []) ≡ xs
take_front xs x =
    let e : length (xs ++ x ∷ []) - 1 ≡ length xs = omega (arith, length_push xs x) in
    rw e (take_at xs (x ∷ []) (length xs) refl)

pub begun : (bs : List ℕ) → IsBegun (codes "From " ++ bs) (read (at [] [] [] Separator) bs)
unfolding messages finished open_bytes parts is_drop
begun bs =
    let w = from_shows bs in
    let e : messages (codes "From " ++ bs) ≡ all_of (read (at [] [] [] Separator) bs) = sym w.whole in
    record {
      drop = refl;
      whole_is = e;
      done_is = ap (λ x. take (length x - 1) x) e ∙ take_front (read (at [] [] [] Separator) bs).done _;
      open_is = sym (w.rest []);
    }

is_drop-filled : (p : List ℕ) (b : ℕ) (q : List ℕ) → is_drop (p ++ b ∷ q) ≡ begins_from (p ++ b ∷ q)
unfolding is_drop
is_drop-filled [] b q = refl
is_drop-filled (c ∷ p) b q = refl

pub read-turn : (s : Reading) (b : ℕ) (bs : List ℕ) (t : Turn) → turn s.place b ≡ t → read (took s b t) bs ≡ read s (b ∷ bs)
unfolding read
read-turn s b bs t e = ap (λ x. read (took s b x) bs) (sym e)

-- the same reading of the same bytes
knows_same : (d d' : List ℕ) (s s' : Reading) → d ≡ d' → s ≡ s' → Knows s.place d s → Knows s'.place d' s'
knows_same d d' s s' ed es k = subst (λ y. Knows s'.place y s') ed (subst (λ y. Knows y.place d y) es k)

knows_from : (bs : List ℕ) (m : Match) → Knows (read (at [] [] [] (First m)) bs).place (text_of m ++ bs) (read (at [] [] [] (First m)) bs)
unfolding read
knows_from [] m = record { text_is = append-nil (text_of m); reading_is = refl }
knows_from (b ∷ bs) m = elim (grows m b) [
  | more n g x ↦
      knows_same (text_of n ++ bs) (text_of m ++ b ∷ bs) (read (at [] [] [] (First n)) bs) (read (at [] [] [] (First m)) (b ∷ bs))
      (ap (λ y. y ++ bs) x ∙ append_assoc (text_of m) (b ∷ []) bs)
      (read-turn (at [] [] [] (First m)) b bs (Passes (First n)) (rw g refl))
      (knows_from bs n)
  | whole g x ↦
      let s : Reading = read (at [] [] [] Separator) bs in
      knows_same (codes "From " ++ bs) (text_of m ++ b ∷ bs) s (read (at [] [] [] (First m)) (b ∷ bs))
      (ap (λ y. y ++ bs) (sym x) ∙ append_assoc (text_of m) (b ∷ []) bs)
      (read-turn (at [] [] [] (First m)) b bs (Passes Separator) (rw g refl))
      (knows_begun s.place (codes "From " ++ bs) s (read_begun bs (at [] [] [] Separator) refl) (begun bs))
  | broken g k ↦
      let lost : IsLost (text_of m ++ b ∷ bs) (at [] [] [] Lost) = record {
        no_drop = λ rest. ap (λ y. is_drop y) (append_assoc (text_of m) (b ∷ bs) rest) ∙ is_drop-filled (text_of m) b (bs ++ rest) ∙ k (bs ++ rest);
        reading_is = refl;
      } in
      knows_same (text_of m ++ b ∷ bs) (text_of m ++ b ∷ bs) (at [] [] [] Lost) (read (at [] [] [] (First m)) (b ∷ bs)) refl
      (sym (read_lost bs) ∙ read-turn (at [] [] [] (First m)) b bs (Passes Lost) (rw g refl))
      lost
]

pub knows : (d : List ℕ) → Knows (reading d).place d (reading d)
knows d = knows_from d Nothing

abbrev pub Staged : Stage → List ℕ → Reading → Type 0
Staged Unread d s = d ≡ []
Staged NoDrop d s = is_drop d ≡ false
Staged Begun d s = IsBegun d s

no_drop : (m : Match) → Staged (first_stage m) (text_of m) (at [] [] [] (First m))
unfolding is_drop
no_drop Nothing = refl
no_drop F = refl
no_drop Fr = refl
no_drop Fro = refl
no_drop From = refl

staged_first : (m : Match) (d : List ℕ) (s : Reading) → IsStart m d s → Staged (first_stage m) d s
staged_first m d s k = subst (λ x. Staged (first_stage m) x s) (sym k.text_is) (subst (λ y. Staged (first_stage m) (text_of m) y) (sym k.reading_is) (no_drop m))

staged_at : (place : DropState) (d : List ℕ) (s : Reading) → Knows place d s → Staged (stage_of place) d s
staged_at (First m) d s k = staged_first m d s k
staged_at Lost d s k = ap (λ x. is_drop x) (sym (append-nil d)) ∙ k.no_drop []
staged_at Separator d s k = k
staged_at Start d s k = k
staged_at Return d s k = k
staged_at Middle d s k = k
staged_at (Blank m) d s k = k

pub staged : (stage : Stage) (d : List ℕ) (place : DropState) → place ≡ (reading d).place → stage ≡ stage_of place → Staged stage d (reading d)
staged stage d place e f = subst (λ x. Staged x d (reading d)) (sym (f ∙ ap (λ p. stage_of p) e)) (staged_at (reading d).place d (reading d) (knows d))

pub is_begun_at : (d : List ℕ) (place : DropState) → place ≡ (reading d).place → Begun ≡ stage_of place → IsBegun d (reading d)
is_begun_at d place e f = staged Begun d place e f

pub messages-none : messages [] ≡ []
unfolding messages parts sections lines
messages-none = refl

pub is_drop-none : is_drop [] ≡ true
unfolding is_drop
is_drop-none = refl
