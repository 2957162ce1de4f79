-- The messages of a drop, one by one.
use Rattle.std.proofs.Common.{◌≡◌, ℕ, ◌+◌, ◌≤◌, true, false, List, [], ◌∷◌, ◌++◌, length, take, drop, refl, sym, ap, ◌∙◌, arith, Option, Some, None, Bor}
use Rattle.std.specs.Prelude.{codes, ◌==◌}
use Rattle.std.proofs.lemmas.List.{append_assoc, take_all, take-append-drop, length_push, length-append}
use Rattle.std.proofs.lemmas.Bool.{eqb-true}
use Rattle.std.proofs.lemmas.Slice.Eq.{bytes_eq-Decides}
use Rattle.mbox_drop.specs.Drops.{messages, is_drop, begins_from}
use Rattle.mbox_drop.specs.Places.{turn, ended}
use Rattle.mbox_drop.specs.Readings.{Reading, at, took, read, all_of}
use Rattle.mbox_drop.specs.Parting.{opened_reading, IsWhole, IsOpen}
use Rattle.mbox_drop.specs.Text.{text_with}
use Rattle.mbox_drop.proofs.Counts.{read_sized}
use Rattle.mbox_drop.proofs.KnownBytes.{begun, messages-none}
use Rattle.mbox_drop.specs.declared.place.Match.TheVariants.{Nothing, F, Fr, Fro, From}
use Rattle.mbox_drop.specs.declared.place.DropState.{DropState}
use Rattle.mbox_drop.specs.declared.place.DropState.TheVariants.{First, Lost, Separator, Start, Return, Middle, Blank}
use Rattle.mbox_drop.specs.declared.place.Turn.{Turn}
use Rattle.mbox_drop.specs.declared.place.Turn.TheVariants.{Joins, Empties, Begins, Passes}

-- a reading with these messages finished before
abbrev pub after : List (List ℕ) → Reading → Reading
after done s = at (done ++ s.done) s.hand s.body s.place

took-after : (done : List (List ℕ)) (s : Reading) (b : ℕ) (t : Turn) → took (after done s) b t ≡ after done (took s b t)
took-after done s b (Joins p) = refl
took-after done s b (Empties p) = refl
took-after done s b Begins = ap (λ x. at x [] [] Separator) (append_assoc done s.done (s.body ∷ []))
took-after done s b (Passes p) = refl

pub read-after : (bs : List ℕ) (done : List (List ℕ)) (s : Reading) → read (after done s) bs ≡ after done (read s bs)
unfolding read
read-after [] done s = refl
read-after (b ∷ bs) done s = ap (λ x. read x bs) (took-after done s b (turn s.place b)) ∙ read-after bs done (took s b (turn s.place b))

-- the messages after a first `From `
pub messages-from : (bytes : List ℕ) → messages (codes "From " ++ bytes) ≡ all_of (read opened_reading bytes)
messages-from bytes = (begun bytes).whole_is

pub messages-whole : (bytes message rest : List ℕ) → IsWhole bytes message rest → messages (codes "From " ++ bytes) ≡ message ∷ messages (codes "From " ++ rest)
messages-whole bytes message rest w =
    messages-from bytes ∙ ap all_of (w.reads ∙ read-after rest (message ∷ []) opened_reading) ∙ ap (λ x. message ∷ x) (sym (messages-from rest))

pub ended-take : (place : DropState) (body : ℕ) (text : List ℕ) → ended place (take body text) text ≡ take (ended place body (length text)) text
ended-take (First m) body text = sym (take_all (length text) text (omega arith))
ended-take Lost body text = sym (take_all (length text) text (omega arith))
ended-take Separator body text = sym (take_all (length text) text (omega arith))
ended-take Start body text = sym (take_all (length text) text (omega arith))
ended-take Return body text = sym (take_all (length text) text (omega arith))
ended-take Middle body text = sym (take_all (length text) text (omega arith))
ended-take (Blank Nothing) body text = refl
ended-take (Blank F) body text = sym (take_all (length text) text (omega arith))
ended-take (Blank Fr) body text = sym (take_all (length text) text (omega arith))
ended-take (Blank Fro) body text = sym (take_all (length text) text (omega arith))
ended-take (Blank From) body text = sym (take_all (length text) text (omega arith))

pub messages-open : (bytes text : List ℕ) (place : DropState) (body : ℕ) → IsOpen bytes text place body →
    messages (codes "From " ++ bytes) ≡ take (ended place body (length text)) text ∷ []
messages-open bytes text place body w = messages-from bytes ∙ ap all_of w.reads ∙ ap (λ x. x ∷ []) (ended-take place body text)

-- whether bytes are a drop, by their first five
pub drop_from : (bytes : List ℕ) → begins_from bytes ≡ true → (is_drop bytes ≡ true) × (codes "From " ++ drop 5 bytes ≡ bytes)
unfolding is_drop
drop_from [] e = cc
drop_from (b ∷ rest) e =
    let front : take 5 (b ∷ rest) ≡ codes "From " = (bytes_eq-Decides (take 5 (b ∷ rest)) (codes "From ")).0 e in
    (e, ap (λ x. x ++ drop 5 (b ∷ rest)) (sym front) ∙ take-append-drop 5 (b ∷ rest))

pub no_drop_from : (bytes : List ℕ) → (length bytes == 0) ≡ false → begins_from bytes ≡ false → is_drop bytes ≡ false
unfolding is_drop
no_drop_from [] h e = cc
no_drop_from (b ∷ rest) h e = e

pub drop_empty : (bytes : List ℕ) → (length bytes == 0) ≡ true → (is_drop bytes ≡ true) × ([] ≡ bytes)
unfolding is_drop
drop_empty [] h = (refl, refl)
drop_empty (b ∷ rest) h = let e : length (b ∷ rest) ≡ 0 = eqb-true (length (b ∷ rest)) 0 h in absurd (omega arith)

-- there are no more messages than bytes
messages-sized : (rest : List ℕ) → length (messages (codes "From " ++ rest)) ≤ length (codes "From " ++ rest)
messages-sized rest =
    let s : Reading = read opened_reading rest in
    let sized : length s.hand + length s.done ≤ 0 + length rest = read_sized rest opened_reading 0 (omega arith) in
    let count : length (messages (codes "From " ++ rest)) ≡ length s.done + 1 = ap length (messages-from rest) ∙ length_push s.done (ended s.place s.body s.hand) in
    omega (arith, length-append (codes "From ") rest)

pub length-messages : (rest : Option (Bor (List ℕ))) → length (messages (text_with rest)) ≤ length (text_with rest)
length-messages None = let e : length (messages []) ≡ 0 = ap length messages-none in omega arith
length-messages (Some rest) = messages-sized rest.now
