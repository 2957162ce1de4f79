-- A reading has the messages that the definition cuts from the lines.
use Rattle.std.proofs.Common.{◌≡◌, ℕ, Bool, true, false, List, [], ◌∷◌, ◌++◌, map, refl, sym, ap, ◌∙◌, subst, inl, inr, ◌⊎◌, append_assoc}
use Rattle.std.specs.Prelude.{◌==◌, ◌&&◌, codes}
use Rattle.std.specs.List.{concat}
use Rattle.std.proofs.lemmas.List.{append-nil}
use Rattle.std.proofs.lemmas.Bool.{eqb-true}
use Rattle.mbox_drop.specs.Drops.{lines, onto_first, is_empty_line, begins_from, Sections, sections, opened, added, message_of, last_bytes}
use Rattle.mbox_drop.specs.Leaping.{HasNoEnd}
use Rattle.mbox_drop.specs.Places.{turn, grown}
use Rattle.mbox_drop.specs.Readings.{Reading, at, took, read, all_of}
use Rattle.mbox_drop.specs.declared.place.Match.{Match}
use Rattle.mbox_drop.specs.declared.place.Match.TheVariants.{Nothing, F, Fr, Fro, From}
use Rattle.mbox_drop.specs.declared.place.Growth.TheVariants.{More, Whole, Broken}
use Rattle.mbox_drop.specs.declared.place.DropState.{DropState}
use Rattle.mbox_drop.specs.declared.place.DropState.TheVariants.{Separator, Start, Return, Middle, Blank}
use Rattle.mbox_drop.specs.declared.place.Turn.{Turn}
use Rattle.mbox_drop.specs.declared.place.Turn.TheVariants.{Joins, Empties, Begins}

pub split : (t : Bool) → (t ≡ true) ⊎ (t ≡ false)
split true = inl refl
split false = inr refl

and-false : (t : Bool) → (t && false) ≡ false
and-false true = refl
and-false false = refl

pub HasNoEnd-push : (p : List ℕ) (b : ℕ) → HasNoEnd p → (b == 10) ≡ false → HasNoEnd (p ++ b ∷ [])
HasNoEnd-push [] b u e = (e, tt)
HasNoEnd-push (c ∷ p) b u e = (u.0, HasNoEnd-push p b u.1 e)

-- a line that goes on to its end
pub lines-ended : (p rest : List ℕ) → HasNoEnd p → lines (p ++ 10 ∷ rest) ≡ (p ++ 10 ∷ []) ∷ lines rest
unfolding lines
lines-ended [] rest u = refl
lines-ended (b ∷ p) rest u = rw (u.0, lines-ended p rest u.1) refl

-- a line that ends with the text
pub lines-open : (b : ℕ) (p : List ℕ) → HasNoEnd (b ∷ p) → lines (b ∷ p) ≡ (b ∷ p) ∷ []
unfolding lines
lines-open b [] u = rw u.0 refl
lines-open b (c ∷ p) u = rw (u.0, lines-open c p u.1) refl

-- the message of which these lines come first, and then those of the part
abbrev pub close : List ℕ → List ℕ → List (List ℕ) → List ℕ
close h short [] = short
close h short (line ∷ rest) = h ++ message_of (line ∷ rest)

pub record Shows (done : List (List ℕ)) (h short : List ℕ) (s : Reading) (cut : Sections) : Type 0 where
  pub whole : all_of s ≡ done ++ close h short cut.before ∷ map message_of cut.parts
  pub rest : s.hand ≡ last_bytes (h ++ concat cut.before) cut.parts

pub record ShowsParts (done : List (List ℕ)) (s : Reading) (cut : Sections) : Type 0 where
  pub whole : all_of s ≡ done ++ map message_of cut.parts
  pub rest : (x : List ℕ) → s.hand ≡ last_bytes x cut.parts

close_line : (h line : List ℕ) (before : List (List ℕ)) → is_empty_line line ≡ false → close (h ++ line) (h ++ line) before ≡ h ++ message_of (line ∷ before)
close_line h line [] e = rw e (ap (λ x. h ++ x) (sym (append-nil line)))
close_line h line (next ∷ rest) e = append_assoc h line (message_of (next ∷ rest))

close_empty : (h line : List ℕ) (before : List (List ℕ)) → is_empty_line line ≡ true → close (h ++ line) h before ≡ h ++ message_of (line ∷ before)
close_empty h line [] e = rw e (sym (append-nil h))
close_empty h line (next ∷ rest) e = append_assoc h line (message_of (next ∷ rest))

line_step : (done : List (List ℕ)) (h short line : List ℕ) (s : Reading) (cut : Sections) → is_empty_line line ≡ false →
    Shows done (h ++ line) (h ++ line) s cut → Shows done h short s (added line cut)
line_step done h short line s cut e w = record {
  whole = w.whole ∙ ap (λ m. done ++ m ∷ map message_of cut.parts) (close_line h line cut.before e);
  rest = w.rest ∙ ap (λ x. last_bytes x cut.parts) (append_assoc h line (concat cut.before));
}

empty_step : (done : List (List ℕ)) (h short line : List ℕ) (s : Reading) (cut : Sections) → is_empty_line line ≡ true →
    Shows done (h ++ line) h s cut → Shows done h short s (added line cut)
empty_step done h short line s cut e w = record {
  whole = w.whole ∙ ap (λ m. done ++ m ∷ map message_of cut.parts) (close_empty h line cut.before e);
  rest = w.rest ∙ ap (λ x. last_bytes x cut.parts) (append_assoc h line (concat cut.before));
}

-- a separator ends the message before it
begin_step : (done : List (List ℕ)) (h short : List ℕ) (s : Reading) (cut : Sections) → cut.before ≡ [] →
    ShowsParts (done ++ short ∷ []) s cut → Shows done h short s cut
begin_step done h short s cut e w = record {
  whole = w.whole ∙ append_assoc done (short ∷ []) (map message_of cut.parts) ∙ ap (λ x. done ++ close h short x ∷ map message_of cut.parts) (sym e);
  rest = w.rest (h ++ concat cut.before);
}

open_close : (before : List (List ℕ)) → close [] [] before ≡ message_of before
open_close [] = refl
open_close (line ∷ rest) = refl

-- the lines after a separator are a part
open_step : (done : List (List ℕ)) (s : Reading) (cut : Sections) → Shows done [] [] s cut → ShowsParts done s (opened cut)
open_step done s cut w = record {
  whole = w.whole ∙ ap (λ x. done ++ x ∷ map message_of cut.parts) (open_close cut.before);
  rest = λ x. w.rest;
}

-- one byte more, where the turn and the sections are known
via : (done : List (List ℕ)) (h short : List ℕ) (s : Reading) (b : ℕ) (bs : List ℕ) (t : Turn) (cut cut' : Sections) →
    turn s.place b ≡ t → cut ≡ cut' → Shows done h short (read (took s b t) bs) cut' → Shows done h short (read s (b ∷ bs)) cut
unfolding read
via done h short s b bs t cut cut' et ec w =
    subst (λ x. Shows done h short (read (took s b x) bs) cut) (sym et)
    (subst (λ x. Shows done h short (read (took s b t) bs) x) (sym ec) w)

abbrev pub text_of : Match → List ℕ
text_of Nothing = []
text_of F = 70 ∷ []
text_of Fr = 70 ∷ 114 ∷ []
text_of Fro = 70 ∷ 114 ∷ 111 ∷ []
text_of From = 70 ∷ 114 ∷ 111 ∷ 109 ∷ []

-- the beginning of a line that is no separator and not empty, however it goes on
record IsOrdinary (after_empty : Bool) (p : List ℕ) : Type 0 where
  no_end : HasNoEnd p
  filled : (q : List ℕ) → is_empty_line (p ++ q) ≡ false
  plain : (q : List ℕ) → (begins_from (p ++ q) && after_empty) ≡ false

IsOrdinary-push : (a : Bool) (p : List ℕ) (b : ℕ) → IsOrdinary a p → (b == 10) ≡ false → IsOrdinary a (p ++ b ∷ [])
IsOrdinary-push a p b o e = record {
  no_end = HasNoEnd-push p b o.no_end e;
  filled = λ q. rw append_assoc (o.filled (b ∷ q));
  plain = λ q. rw append_assoc (o.plain (b ∷ q));
}

-- after a line that is neither a separator nor empty
sections-line : (a : Bool) (line : List ℕ) (rest : List (List ℕ)) → (begins_from line && a) ≡ false → is_empty_line line ≡ false →
    sections a (line ∷ rest) ≡ added line (sections false rest)
unfolding sections
sections-line a line rest e f = rw (e, f) refl

sections-empty : (a : Bool) (line : List ℕ) (rest : List (List ℕ)) → (begins_from line && a) ≡ false → is_empty_line line ≡ true →
    sections a (line ∷ rest) ≡ added line (sections true rest)
unfolding sections
sections-empty a line rest e f = rw (e, f) refl

sections-from : (line : List ℕ) (rest : List (List ℕ)) → begins_from line ≡ true → sections true (line ∷ rest) ≡ opened (sections false rest)
unfolding sections
sections-from line rest e = rw e refl

-- what one byte makes of the beginning of a separator
pub data Grows (m : Match) (b : ℕ) : Type 0 where
  more : (n : Match) → grown m b ≡ More n → text_of n ≡ text_of m ++ b ∷ [] → Grows m b
  whole : grown m b ≡ Whole → text_of m ++ b ∷ [] ≡ codes "From " → Grows m b
  broken : grown m b ≡ Broken → ((q : List ℕ) → begins_from (text_of m ++ b ∷ q) ≡ false) → Grows m b

pub grows : (m : Match) (b : ℕ) → Grows m b
grows Nothing b = elim (split (b == 70)) [ inl e ↦ more F (rw e refl) (ap (λ x. x ∷ []) (sym (eqb-true _ _ e))) | inr e ↦ broken (rw e refl) (λ q. rw e refl) ]
grows F b = elim (split (b == 114)) [ inl e ↦ more Fr (rw e refl) (ap (λ x. 70 ∷ x ∷ []) (sym (eqb-true _ _ e))) | inr e ↦ broken (rw e refl) (λ q. rw e refl) ]
grows Fr b = elim (split (b == 111)) [ inl e ↦ more Fro (rw e refl) (ap (λ x. 70 ∷ 114 ∷ x ∷ []) (sym (eqb-true _ _ e))) | inr e ↦ broken (rw e refl) (λ q. rw e refl) ]
grows Fro b = elim (split (b == 109)) [ inl e ↦ more From (rw e refl) (ap (λ x. 70 ∷ 114 ∷ 111 ∷ x ∷ []) (sym (eqb-true _ _ e))) | inr e ↦ broken (rw e refl) (λ q. rw e refl) ]
grows From b = elim (split (b == 32)) [ inl e ↦ whole (rw e refl) (ap (λ x. 70 ∷ 114 ∷ 111 ∷ 109 ∷ x ∷ []) (eqb-true _ _ e)) | inr e ↦ broken (rw e refl) (λ q. rw e refl) ]

-- what holds of the rest of the bytes, at each place
record Tail (bs : List ℕ) : Type 0 where
  start : (done : List (List ℕ)) (h body : List ℕ) → Shows done h h (read (at done h body Start) bs) (sections false (lines bs))
  blank : (m : Match) (done : List (List ℕ)) (h short hand : List ℕ) → hand ≡ h ++ text_of m →
      Shows done h short (read (at done hand short (Blank m)) bs) (sections true (lines (text_of m ++ bs)))
  after_cr : (a : Bool) (done : List (List ℕ)) (h short hand : List ℕ) → hand ≡ h ++ 13 ∷ [] →
      Shows done h short (read (at done hand h Return) bs) (sections a (lines (13 ∷ bs)))
  middle : (a : Bool) (c : ℕ) (p : List ℕ) (done : List (List ℕ)) (h short hand body : List ℕ) → IsOrdinary a (c ∷ p) → hand ≡ h ++ c ∷ p →
      Shows done h short (read (at done hand body Middle) bs) (sections a (lines (c ∷ (p ++ bs))))
  separator : (q : List ℕ) (done : List (List ℕ)) → HasNoEnd q →
      ShowsParts done (read (at done [] [] Separator) bs) (sections true (lines (70 ∷ 114 ∷ 111 ∷ 109 ∷ 32 ∷ (q ++ bs))))

-- at the end of the bytes
start_none : (done : List (List ℕ)) (h body : List ℕ) → Shows done h h (read (at done h body Start) []) (sections false (lines []))
unfolding read sections lines
start_none done h body = record { whole = refl; rest = sym (append-nil h) }

blank_none : (m : Match) (done : List (List ℕ)) (h short hand : List ℕ) → hand ≡ h ++ text_of m →
    Shows done h short (read (at done hand short (Blank m)) []) (sections true (lines (text_of m ++ [])))
unfolding read sections lines
blank_none Nothing done h short hand e = record { whole = refl; rest = e }
blank_none F done h short hand e = record { whole = ap (λ x. done ++ x ∷ []) e; rest = e }
blank_none Fr done h short hand e = record { whole = ap (λ x. done ++ x ∷ []) e; rest = e }
blank_none Fro done h short hand e = record { whole = ap (λ x. done ++ x ∷ []) e; rest = e }
blank_none From done h short hand e = record { whole = ap (λ x. done ++ x ∷ []) e; rest = e }

after_cr_none : (a : Bool) (done : List (List ℕ)) (h short hand : List ℕ) → hand ≡ h ++ 13 ∷ [] →
    Shows done h short (read (at done hand h Return) []) (sections a (lines (13 ∷ [])))
unfolding read sections lines
after_cr_none a done h short hand e = record { whole = ap (λ x. done ++ x ∷ []) e; rest = e }

-- the last line of the text
sections-last : (a : Bool) (c : ℕ) (p : List ℕ) → IsOrdinary a (c ∷ p) → sections a (lines (c ∷ (p ++ []))) ≡ added (c ∷ p) (record { before = []; parts = [] })
unfolding sections
sections-last a c p o =
    let plain : (begins_from (c ∷ p) && a) ≡ false = subst (λ x. (begins_from (c ∷ x) && a) ≡ false) (append-nil p) (o.plain []) in
    let filled : is_empty_line (c ∷ p) ≡ false = subst (λ x. is_empty_line (c ∷ x) ≡ false) (append-nil p) (o.filled []) in
    ap (λ x. sections a (lines (c ∷ x))) (append-nil p) ∙ ap (λ x. sections a x) (lines-open c p o.no_end) ∙ sections-line a (c ∷ p) [] plain filled

middle_none : (a : Bool) (c : ℕ) (p : List ℕ) (done : List (List ℕ)) (h short hand body : List ℕ) → IsOrdinary a (c ∷ p) → hand ≡ h ++ c ∷ p →
    Shows done h short (read (at done hand body Middle) []) (sections a (lines (c ∷ (p ++ []))))
unfolding read
middle_none a c p done h short hand body o e =
    let filled : is_empty_line (c ∷ p) ≡ false = subst (λ x. is_empty_line (c ∷ x) ≡ false) (append-nil p) (o.filled []) in
    let base : Shows done (h ++ c ∷ p) (h ++ c ∷ p) (at done hand body Middle) (record { before = []; parts = [] }) =
    record { whole = ap (λ x. done ++ x ∷ []) e; rest = e ∙ sym (append-nil (h ++ c ∷ p)) } in
    subst (λ x. Shows done h short (at done hand body Middle) x) (sym (sections-last a c p o)) (line_step done h short (c ∷ p) (at done hand body Middle) (record { before = []; parts = [] }) filled base)

separator_none : (q : List ℕ) (done : List (List ℕ)) → HasNoEnd q →
    ShowsParts done (read (at done [] [] Separator) []) (sections true (lines (70 ∷ 114 ∷ 111 ∷ 109 ∷ 32 ∷ (q ++ []))))
unfolding read sections
separator_none q done u =
    let line : List ℕ = 70 ∷ 114 ∷ 111 ∷ 109 ∷ 32 ∷ q in
    let e : sections true (lines (70 ∷ 114 ∷ 111 ∷ 109 ∷ 32 ∷ (q ++ []))) ≡ opened (sections false []) =
    ap (λ x. sections true (lines (70 ∷ 114 ∷ 111 ∷ 109 ∷ 32 ∷ x))) (append-nil q)
    ∙ ap (λ x. sections true x) (lines-open 70 (114 ∷ 111 ∷ 109 ∷ 32 ∷ q) (refl, (refl, (refl, (refl, (refl, u))))))
    ∙ sections-from line [] refl in
    subst (λ x. ShowsParts done (at done [] [] Separator) x) (sym e) (record { whole = refl; rest = λ x. refl })

-- one byte more, at each place
start_lf : (bs : List ℕ) (done : List (List ℕ)) (h body : List ℕ) → Tail bs →
    Shows done h h (read (at done h body Start) (10 ∷ bs)) (sections false (lines (10 ∷ bs)))
unfolding read sections lines
start_lf bs done h body t =
    empty_step done h h (10 ∷ []) (read (at done (h ++ 10 ∷ []) h (Blank Nothing)) bs) (sections true (lines bs)) refl
    (t.blank Nothing done (h ++ 10 ∷ []) h (h ++ 10 ∷ []) (sym (append-nil (h ++ 10 ∷ []))))

blank_lf : (bs : List ℕ) (done : List (List ℕ)) (h short : List ℕ) → Tail bs →
    Shows done h short (read (at done h short (Blank Nothing)) (10 ∷ bs)) (sections true (lines (10 ∷ bs)))
unfolding read sections lines
blank_lf bs done h short t =
    empty_step done h short (10 ∷ []) (read (at done (h ++ 10 ∷ []) h (Blank Nothing)) bs) (sections true (lines bs)) refl
    (t.blank Nothing done (h ++ 10 ∷ []) h (h ++ 10 ∷ []) (sym (append-nil (h ++ 10 ∷ []))))

-- a byte that makes the line ordinary
to_middle : (a : Bool) (b : ℕ) (bs p : List ℕ) (done : List (List ℕ)) (h short hand body : List ℕ) (place : DropState) → Tail bs →
    turn place b ≡ Joins Middle → IsOrdinary a (p ++ b ∷ []) → hand ≡ h ++ p →
    Shows done h short (read (at done hand body place) (b ∷ bs)) (sections a (lines (p ++ b ∷ bs)))
to_middle a b bs [] done h short hand body place t et o e =
    via done h short (at done hand body place) b bs (Joins Middle) _ _ et refl
    (t.middle a b [] done h short (hand ++ b ∷ []) body o (ap (λ x. x ++ b ∷ []) (e ∙ append-nil h)))
to_middle a b bs (c ∷ p) done h short hand body place t et o e =
    via done h short (at done hand body place) b bs (Joins Middle) _ (sections a (lines (c ∷ ((p ++ b ∷ []) ++ bs)))) et
    (ap (λ x. sections a (lines (c ∷ x))) (sym (append_assoc p (b ∷ []) bs)))
    (t.middle a c (p ++ b ∷ []) done h short (hand ++ b ∷ []) body o (ap (λ x. x ++ b ∷ []) e ∙ append_assoc h (c ∷ p) (b ∷ [])))

-- a line that is no separator and not empty, without its end
record IsPlainLine (after_empty : Bool) (p : List ℕ) : Type 0 where
  no_end : HasNoEnd p
  filled : is_empty_line (p ++ 10 ∷ []) ≡ false
  plain : (begins_from (p ++ 10 ∷ []) && after_empty) ≡ false

plain_line : (a : Bool) (p : List ℕ) → IsOrdinary a p → IsPlainLine a p
plain_line a p o = record { no_end = o.no_end; filled = o.filled (10 ∷ []); plain = o.plain (10 ∷ []) }

-- a line end after other bytes
to_start : (a : Bool) (bs : List ℕ) (p : List ℕ) (done : List (List ℕ)) (h short hand body : List ℕ) (place : DropState) → Tail bs →
    turn place 10 ≡ Joins Start → IsPlainLine a p → hand ≡ h ++ p →
    Shows done h short (read (at done hand body place) (10 ∷ bs)) (sections a (lines (p ++ 10 ∷ bs)))
to_start a bs p done h short hand body place t et o e =
    let line : List ℕ = p ++ 10 ∷ [] in
    let eh : hand ++ 10 ∷ [] ≡ h ++ line = ap (λ x. x ++ 10 ∷ []) e ∙ append_assoc h p (10 ∷ []) in
    let cut : Sections = sections false (lines bs) in
    via done h short (at done hand body place) 10 bs (Joins Start) _ (added line cut) et
    (ap (λ x. sections a x) (lines-ended p bs o.no_end) ∙ sections-line a line (lines bs) o.plain o.filled)
    (line_step done h short line (read (at done (hand ++ 10 ∷ []) body Start) bs) cut o.filled
    (subst (λ x. Shows done x x (read (at done (hand ++ 10 ∷ []) body Start) bs) cut) eh (t.start done (hand ++ 10 ∷ []) body)))

-- the place after a CR, at its LF
cr_lf : (a : Bool) (bs : List ℕ) (done : List (List ℕ)) (h short hand : List ℕ) → Tail bs → hand ≡ h ++ 13 ∷ [] →
    Shows done h short (read (at done hand h Return) (10 ∷ bs)) (sections a (lines (13 ∷ 10 ∷ bs)))
unfolding read sections lines
cr_lf a bs done h short hand t e =
    empty_step done h short (13 ∷ 10 ∷ []) (read (at done (hand ++ 10 ∷ []) h (Blank Nothing)) bs) (sections true (lines bs)) refl
    (t.blank Nothing done (h ++ 13 ∷ 10 ∷ []) h (hand ++ 10 ∷ [])
    (ap (λ x. x ++ 10 ∷ []) e ∙ append_assoc h (13 ∷ []) (10 ∷ []) ∙ sym (append-nil (h ++ 13 ∷ 10 ∷ []))))

plain_start : (b : ℕ) → (b == 10) ≡ false → (b == 13) ≡ false → IsOrdinary false (b ∷ [])
plain_start b e f = record {
  no_end = (e, tt);
  filled = λ q. rw (e, f) refl;
  plain = λ q. and-false (begins_from (b ∷ q));
}

start_more : (b : ℕ) (bs : List ℕ) → Tail bs → (done : List (List ℕ)) (h body : List ℕ) →
    Shows done h h (read (at done h body Start) (b ∷ bs)) (sections false (lines (b ∷ bs)))
start_more b bs t done h body = elim (split (b == 10)) [
  | inl e ↦ subst (λ x. Shows done h h (read (at done h body Start) (x ∷ bs)) (sections false (lines (x ∷ bs)))) (sym (eqb-true _ _ e)) (start_lf bs done h body t)
  | inr e ↦ elim (split (b == 13)) [
    | inl f ↦ via done h h (at done h body Start) b bs (Empties Return) _ (sections false (lines (13 ∷ bs))) (rw (e, f) refl)
        (ap (λ x. sections false (lines (x ∷ bs))) (eqb-true _ _ f))
        (t.after_cr false done h h (h ++ b ∷ []) (ap (λ x. h ++ x ∷ []) (eqb-true _ _ f)))
    | inr f ↦ to_middle false b bs [] done h h h body Start t (rw (e, f) refl) (plain_start b e f) (sym (append-nil h))
  ]
]

after_cr_more : (b : ℕ) (bs : List ℕ) → Tail bs → (a : Bool) (done : List (List ℕ)) (h short hand : List ℕ) → hand ≡ h ++ 13 ∷ [] →
    Shows done h short (read (at done hand h Return) (b ∷ bs)) (sections a (lines (13 ∷ b ∷ bs)))
after_cr_more b bs t a done h short hand e = elim (split (b == 10)) [
  | inl f ↦ subst (λ x. Shows done h short (read (at done hand h Return) (x ∷ bs)) (sections a (lines (13 ∷ x ∷ bs)))) (sym (eqb-true _ _ f)) (cr_lf a bs done h short hand t e)
  | inr f ↦ to_middle a b bs (13 ∷ []) done h short hand h Return t (rw f refl)
      (record { no_end = (refl, (f, tt)); filled = λ q. rw f refl; plain = λ q. refl }) e
]

middle_more : (b : ℕ) (bs : List ℕ) → Tail bs → (a : Bool) (c : ℕ) (p : List ℕ) (done : List (List ℕ)) (h short hand body : List ℕ) →
    IsOrdinary a (c ∷ p) → hand ≡ h ++ c ∷ p → Shows done h short (read (at done hand body Middle) (b ∷ bs)) (sections a (lines (c ∷ (p ++ b ∷ bs))))
middle_more b bs t a c p done h short hand body o e = elim (split (b == 10)) [
  | inl f ↦ subst (λ x. Shows done h short (read (at done hand body Middle) (x ∷ bs)) (sections a (lines (c ∷ (p ++ x ∷ bs))))) (sym (eqb-true _ _ f))
      (to_start a bs (c ∷ p) done h short hand body Middle t refl (plain_line a (c ∷ p) o) e)
  | inr f ↦ to_middle a b bs (c ∷ p) done h short hand body Middle t (rw f refl) (IsOrdinary-push a (c ∷ p) b o f) e
]

separator_more : (b : ℕ) (bs : List ℕ) → Tail bs → (q : List ℕ) (done : List (List ℕ)) → HasNoEnd q →
    ShowsParts done (read (at done [] [] Separator) (b ∷ bs)) (sections true (lines (70 ∷ 114 ∷ 111 ∷ 109 ∷ 32 ∷ (q ++ b ∷ bs))))
unfolding read
separator_more b bs t q done u = elim (split (b == 10)) [
  | inl f ↦
      let line : List ℕ = 70 ∷ 114 ∷ 111 ∷ 109 ∷ 32 ∷ (q ++ 10 ∷ []) in
      let e : sections true (lines (70 ∷ 114 ∷ 111 ∷ 109 ∷ 32 ∷ (q ++ 10 ∷ bs))) ≡ opened (sections false (lines bs)) =
      ap (λ x. sections true x) (lines-ended (70 ∷ 114 ∷ 111 ∷ 109 ∷ 32 ∷ q) bs (refl, (refl, (refl, (refl, (refl, u)))))) ∙ sections-from line (lines bs) refl in
      subst (λ x. ShowsParts done (read (at done [] [] Separator) (x ∷ bs)) (sections true (lines (70 ∷ 114 ∷ 111 ∷ 109 ∷ 32 ∷ (q ++ x ∷ bs))))) (sym (eqb-true _ _ f))
      (subst (λ x. ShowsParts done (read (at done [] [] Separator) (10 ∷ bs)) x) (sym e) (open_step done _ _ (t.start done [] [])))
  | inr f ↦ rw f (subst (λ x. ShowsParts done (read (at done [] [] Separator) bs) (sections true (lines (70 ∷ 114 ∷ 111 ∷ 109 ∷ 32 ∷ x)))) (append_assoc q (b ∷ []) bs)
      (t.separator (q ++ b ∷ []) done (HasNoEnd-push q b u f)))
]

-- the separator that the bytes begin with leaves nothing before it
from_lines : (rest : List (List ℕ)) → (sections true (onto_first 70 (onto_first 114 (onto_first 111 (onto_first 109 (onto_first 32 rest)))))).before ≡ []
unfolding sections
from_lines [] = refl
from_lines (line ∷ rest) = refl

none_before : (bs : List ℕ) → (sections true (lines (70 ∷ 114 ∷ 111 ∷ 109 ∷ 32 ∷ bs))).before ≡ []
unfolding lines
none_before bs = from_lines (lines bs)

-- the first byte after an empty line, where it does not begin a separator
nothing_broken : (b : ℕ) (bs : List ℕ) → Tail bs → (done : List (List ℕ)) (h short : List ℕ) →
    grown Nothing b ≡ Broken → ((q : List ℕ) → begins_from (b ∷ q) ≡ false) →
    Shows done h short (read (at done h short (Blank Nothing)) (b ∷ bs)) (sections true (lines (b ∷ bs)))
nothing_broken b bs t done h short g k = elim (split (b == 10)) [
  | inl e ↦ subst (λ x. Shows done h short (read (at done h short (Blank Nothing)) (x ∷ bs)) (sections true (lines (x ∷ bs)))) (sym (eqb-true _ _ e)) (blank_lf bs done h short t)
  | inr e ↦ elim (split (b == 13)) [
    | inl f ↦ subst (λ x. Shows done h short (read (at done h short (Blank Nothing)) (x ∷ bs)) (sections true (lines (x ∷ bs)))) (sym (eqb-true _ _ f))
        (via done h short (at done h short (Blank Nothing)) 13 bs (Empties Return) _ _ refl refl (t.after_cr true done h short (h ++ 13 ∷ []) refl))
    | inr f ↦ to_middle true b bs [] done h short h short (Blank Nothing) t (rw (g, e, f) refl)
        (record { no_end = (e, tt); filled = λ q. rw (e, f) refl; plain = λ q. ap (λ x. x && true) (k q) }) (sym (append-nil h))
  ]
]

-- a later byte
later_broken : (m : Match) (b : ℕ) (bs : List ℕ) → Tail bs → (done : List (List ℕ)) (h short hand : List ℕ) → hand ≡ h ++ text_of m →
    turn (Blank m) 10 ≡ Joins Start → ((b == 10) ≡ false → turn (Blank m) b ≡ Joins Middle) → IsPlainLine true (text_of m) →
    ((b == 10) ≡ false → IsOrdinary true (text_of m ++ b ∷ [])) →
    Shows done h short (read (at done hand short (Blank m)) (b ∷ bs)) (sections true (lines (text_of m ++ b ∷ bs)))
later_broken m b bs t done h short hand e lf on_other line ordinary = elim (split (b == 10)) [
  | inl f ↦ subst (λ x. Shows done h short (read (at done hand short (Blank m)) (x ∷ bs)) (sections true (lines (text_of m ++ x ∷ bs)))) (sym (eqb-true _ _ f))
      (to_start true bs (text_of m) done h short hand short (Blank m) t lf line e)
  | inr f ↦ to_middle true b bs (text_of m) done h short hand short (Blank m) t (on_other f) (ordinary f) e
]

blank_broken : (m : Match) (b : ℕ) (bs : List ℕ) → Tail bs → (done : List (List ℕ)) (h short hand : List ℕ) → hand ≡ h ++ text_of m →
    grown m b ≡ Broken → ((q : List ℕ) → begins_from (text_of m ++ b ∷ q) ≡ false) →
    Shows done h short (read (at done hand short (Blank m)) (b ∷ bs)) (sections true (lines (text_of m ++ b ∷ bs)))
blank_broken Nothing b bs t done h short hand e g k =
    subst (λ x. Shows done h short (read (at done x short (Blank Nothing)) (b ∷ bs)) (sections true (lines (b ∷ bs)))) (sym (e ∙ append-nil h)) (nothing_broken b bs t done h short g k)
blank_broken F b bs t done h short hand e g k = later_broken F b bs t done h short hand e refl (λ f. rw (g, f) refl)
    (record { no_end = (refl, tt); filled = refl; plain = refl })
    (λ f. record { no_end = (refl, (f, tt)); filled = λ q. refl; plain = λ q. ap (λ x. x && true) (k q) })
blank_broken Fr b bs t done h short hand e g k = later_broken Fr b bs t done h short hand e refl (λ f. rw (g, f) refl)
    (record { no_end = (refl, (refl, tt)); filled = refl; plain = refl })
    (λ f. record { no_end = (refl, (refl, (f, tt))); filled = λ q. refl; plain = λ q. ap (λ x. x && true) (k q) })
blank_broken Fro b bs t done h short hand e g k = later_broken Fro b bs t done h short hand e refl (λ f. rw (g, f) refl)
    (record { no_end = (refl, (refl, (refl, tt))); filled = refl; plain = refl })
    (λ f. record { no_end = (refl, (refl, (refl, (f, tt)))); filled = λ q. refl; plain = λ q. ap (λ x. x && true) (k q) })
blank_broken From b bs t done h short hand e g k = later_broken From b bs t done h short hand e refl (λ f. rw (g, f) refl)
    (record { no_end = (refl, (refl, (refl, (refl, tt)))); filled = refl; plain = refl })
    (λ f. record { no_end = (refl, (refl, (refl, (refl, (f, tt))))); filled = λ q. refl; plain = λ q. ap (λ x. x && true) (k q) })

blank_more : (b : ℕ) (bs : List ℕ) → Tail bs → (m : Match) (done : List (List ℕ)) (h short hand : List ℕ) → hand ≡ h ++ text_of m →
    Shows done h short (read (at done hand short (Blank m)) (b ∷ bs)) (sections true (lines (text_of m ++ b ∷ bs)))
blank_more b bs t m done h short hand e = elim (grows m b) [
  | more n g x ↦ via done h short (at done hand short (Blank m)) b bs (Joins (Blank n)) _ (sections true (lines (text_of n ++ bs))) (rw g refl)
      (ap (λ y. sections true (lines y)) (sym (append_assoc (text_of m) (b ∷ []) bs) ∙ ap (λ y. y ++ bs) (sym x)))
      (t.blank n done h short (hand ++ b ∷ []) (ap (λ y. y ++ b ∷ []) e ∙ append_assoc h (text_of m) (b ∷ []) ∙ ap (λ y. h ++ y) (sym x)))
  | whole g x ↦ via done h short (at done hand short (Blank m)) b bs Begins _ (sections true (lines (codes "From " ++ bs))) (rw g refl)
      (ap (λ y. sections true (lines y)) (sym (append_assoc (text_of m) (b ∷ []) bs) ∙ ap (λ y. y ++ bs) x))
      (begin_step done h short _ _ (none_before bs) (t.separator [] (done ++ short ∷ []) tt))
  | broken g k ↦ blank_broken m b bs t done h short hand e g k
]

tails : (bs : List ℕ) → Tail bs
tails [] = record { start = start_none; blank = blank_none; after_cr = after_cr_none; middle = middle_none; separator = separator_none }
tails (b ∷ bs) = record {
  start = start_more b bs (tails bs);
  blank = blank_more b bs (tails bs);
  after_cr = after_cr_more b bs (tails bs);
  middle = middle_more b bs (tails bs);
  separator = separator_more b bs (tails bs);
}

-- after the first separator's `From `
pub from_shows : (bs : List ℕ) → ShowsParts [] (read (at [] [] [] Separator) bs) (sections true (lines (codes "From " ++ bs)))
from_shows bs = (tails bs).separator [] [] tt
