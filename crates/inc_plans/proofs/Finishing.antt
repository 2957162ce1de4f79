-- The messages that pieces finish are those of the drop.
use Rattle.std.proofs.Common.{◌≡◌, ◌≤◌, ◌-◌, ◌++◌, ◌∷◌, [], ℕ, Bool, true, false, List, Option, Some, None, Ok, length, drop, refl, sym, ◌∙◌, ap, subst, arith, append_assoc, append-nil}
use Rattle.std.proofs.Math.Seq.{drop-append_seam}
use Rattle.std.proofs.lemmas.List.{length-drop, length-take-le, take-append-drop}
use Rattle.mbox_drop.specs.Drops.{finished, is_drop, messages, open_bytes}
use Rattle.mbox_drop.specs.Long.{excess, long_of}
use Rattle.mbox_drop.specs.Places.{is_lost, turn}
use Rattle.mbox_drop.specs.Readings.{Reading, read, reading, took, unread}
use Rattle.mbox_drop.specs.declared.place.Turn.{Turn}
use Rattle.mbox_drop.specs.declared.place.Turn.TheVariants.{Begins, Empties, Joins, Passes}
use Rattle.mbox_drop.proofs.Cuttings.{sound}
use Rattle.mbox_drop.proofs.KnownBytes.{read-append}
use Rattle.inc_plans.specs.Cutting.{given_by, if_drop, last_by, last_in, new_in, short_last, short_only, unless_lost}
use Rattle.inc_plans.specs.DropTaken.{listed}

-- what is finished stays so
abbrev Grown : List (List ℕ) → List (List ℕ) → Type 0
Grown old new = (more : List (List ℕ)) × (new ≡ old ++ more)

grown_on : (old mid new : List (List ℕ)) → Grown old mid → Grown mid new → Grown old new
grown_on old mid new f g = (f.0 ++ g.0, g.1 ∙ (ap (λ x. x ++ g.0) f.1 ∙ append_assoc old f.0 g.0))

took_grown : (s : Reading) (b : ℕ) (t : Turn) → Grown s.done (took s b t).done
took_grown s b (Joins place) = ([], sym (append-nil s.done))
took_grown s b (Empties place) = ([], sym (append-nil s.done))
took_grown s b Begins = (s.body ∷ [], refl)
took_grown s b (Passes place) = ([], sym (append-nil s.done))

read_grown : (s : Reading) (bytes : List ℕ) → Grown s.done (read s bytes).done
unfolding read
read_grown s [] = ([], sym (append-nil s.done))
read_grown s (b ∷ bytes) =
    grown_on s.done (took s b (turn s.place b)).done (read (took s b (turn s.place b)) bytes).done (took_grown s b (turn s.place b)) (read_grown (took s b (turn s.place b)) bytes)

-- the bytes begin a drop so far
abbrev pub IsFound : List ℕ → Type 0
IsFound d = is_lost (reading d).place ≡ false

pub none_found : IsFound []
unfolding read
none_found = refl

finished_grown : (d piece : List ℕ) → IsFound d → IsFound (d ++ piece) → Grown (finished d) (finished (d ++ piece))
finished_grown d piece f g =
    subst (λ x. Grown x (finished (d ++ piece))) (sym (sound d f).done_is)
    (subst (λ x. Grown (reading d).done x) (sym (sound (d ++ piece) g).done_is)
    (subst (λ x. Grown (reading d).done x.done) (sym (read-append unread d piece)) (read_grown (reading d) piece)))

short_given : (o : Option ℕ) (new given : List (List ℕ)) → short_only o new ≡ Ok given → given ≡ new
short_given None new given e = cc (e)
short_given (Some n) new given e = cc (e)

found_given : (b : Bool) (d piece : List ℕ) (given : List (List ℕ)) → unless_lost b d piece ≡ Ok given → (b ≡ false) × (given ≡ new_in d piece)
found_given true d piece given e = cc (e)
found_given false d piece given e = (refl, short_given (excess (new_in d piece) (length (open_bytes (d ++ piece)))) (new_in d piece) given e)

-- what a piece finishes comes behind what was finished before
pub finished_on : (d piece : List ℕ) (given : List (List ℕ)) → IsFound d → given_by d piece ≡ Ok given → IsFound (d ++ piece) × (finished d ++ given ≡ finished (d ++ piece))
finished_on d piece given found e =
    let both = found_given (is_lost (reading (d ++ piece)).place) d piece given e in
    let g = finished_grown d piece found both.0 in
    let new : new_in d piece ≡ g.0 = ap (λ x. drop (length (finished d)) x) g.1 ∙ drop-append_seam (finished d) g.0 in
    (both.0, ap (λ x. finished d ++ x) (both.1 ∙ new) ∙ sym g.1)

-- one message at most is behind the finished ones
last_listed : (rest : List (List ℕ)) (last : Option (List ℕ)) → length rest ≤ 1 → last_in rest ≡ Ok last → listed last ≡ rest
last_listed [] last few e = let same : last ≡ None = cc (e) in ap listed same
last_listed (m ∷ []) last few e = ap listed (short (long_of (length m)) e)
  where
    short : (o : Option ℕ) → short_last o m ≡ Ok last → last ≡ Some m
    short None e = cc (e)
    short (Some n) e = cc (e)
last_listed (m ∷ (n ∷ rest)) last few e = absurd (omega (arith, few))

if_dropped : (b : Bool) (d : List ℕ) (last : Option (List ℕ)) → if_drop b d ≡ Ok last → (b ≡ true) × (last_in (drop (length (finished d)) (messages d)) ≡ Ok last)
if_dropped true d last e = (refl, e)
if_dropped false d last e = cc (e)

-- with the last message these are all of the drop
pub finished_all : (d : List ℕ) (last : Option (List ℕ)) → last_by d ≡ Ok last → (is_drop d ≡ true) × (finished d ++ listed last ≡ messages d)
unfolding finished
finished_all d last e = (both.0, ap (λ x. finished d ++ x) (last_listed (drop (length (finished d)) all) last few both.1) ∙ (ap (λ k. finished d ++ drop k all) front ∙ take-append-drop (length all - 1) all))
  where
    all : List (List ℕ)
    all = messages d

    both : (is_drop d ≡ true) × (last_in (drop (length (finished d)) all) ≡ Ok last)
    both = if_dropped (is_drop d) d last e

    front : length (finished d) ≡ length all - 1
    front = length-take-le (length all - 1) all (omega arith)

    few : length (drop (length (finished d)) all) ≤ 1
    few = let l = length-drop (length (finished d)) all in omega (arith, l, front)

-- the finished messages are the first of the drop's
pub finished_rest : (d : List ℕ) → finished d ++ drop (length (finished d)) (messages d) ≡ messages d
unfolding finished
finished_rest d = ap (λ k. finished d ++ drop k all) front ∙ take-append-drop (length all - 1) all
  where
    all : List (List ℕ)
    all = messages d

    front : length (finished d) ≡ length all - 1
    front = length-take-le (length all - 1) all (omega arith)
