-- What a search for the next separator says of the reading.
use Rattle.std.proofs.Common.{◌≡◌, ℕ, ◌+◌, ◌≤◌, true, false, List, [], ◌∷◌, ◌++◌, length, take, drop, refl, sym, ap, ◌∙◌, subst, inl, inr, ◌⊎◌, append_assoc, arith}
use Rattle.std.specs.Prelude.{◌==◌}
use Rattle.std.proofs.lemmas.List.{append-nil, length-append, length_push, take_at, drop_at, take-append-le, drop_all, length-drop}
use Rattle.mbox_drop.specs.Places.{turn, is_inside, place_after}
use Rattle.mbox_drop.specs.Readings.{Reading, at, took, read}
use Rattle.mbox_drop.specs.Parting.{opened_reading, IsWhole, IsOpen}
use Rattle.mbox_drop.specs.Finding.{found, found_by, skipped, IsWithin}
use Rattle.mbox_drop.proofs.Sectioning.{split, more, whole, broken, grows}
use Rattle.mbox_drop.proofs.KnownBytes.{read-turn}
use Rattle.mbox_drop.proofs.Finds.{found-cut}
use Rattle.mbox_drop.specs.declared.place.Match.{Match}
use Rattle.mbox_drop.specs.declared.place.Match.TheVariants.{Nothing, F, Fr, Fro, From}
use Rattle.mbox_drop.specs.declared.place.DropState.{DropState}
use Rattle.mbox_drop.specs.declared.place.DropState.TheVariants.{First, Lost, Separator, Start, Return, Middle, Blank}
use Rattle.mbox_drop.specs.declared.place.Turn.{Turn}
use Rattle.mbox_drop.specs.declared.place.Turn.TheVariants.{Joins, Empties, Begins, Passes}
use Rattle.mbox_drop.specs.declared.find.Found.{Found}
use Rattle.mbox_drop.specs.declared.find.Found.TheVariants.{Cut, End}
use Rattle.mbox_drop.specs.declared.find.Skipped.{Skipped}

-- a turn in a message
data Inner : Turn → Type 0 where
  joins : (p : DropState) → is_inside p ≡ true → Inner (Joins p)
  empties : (p : DropState) → is_inside p ≡ true → Inner (Empties p)
  begins : Inner Begins

inner_start : (b : ℕ) → Inner (turn Start b)
inner_start b = elim (split (b == 10)) [ inl e ↦ rw e (empties (Blank Nothing) refl) | inr e ↦ elim (split (b == 13)) [ inl f ↦ rw (e, f) (empties Return refl) | inr f ↦ rw (e, f) (joins Middle refl) ] ]

inner_middle : (b : ℕ) → Inner (turn Middle b)
inner_middle b = elim (split (b == 10)) [ inl e ↦ rw e (joins Start refl) | inr e ↦ rw e (joins Middle refl) ]

inner_blank : (m : Match) (b : ℕ) → Inner (turn (Blank m) b)
inner_blank Nothing b = elim (grows Nothing b) [ more n g x ↦ rw g (joins (Blank n) refl) | whole g x ↦ rw g begins | broken g k ↦ rw g (inner_start b) ]
inner_blank F b = elim (grows F b) [ more n g x ↦ rw g (joins (Blank n) refl) | whole g x ↦ rw g begins | broken g k ↦ rw g (inner_middle b) ]
inner_blank Fr b = elim (grows Fr b) [ more n g x ↦ rw g (joins (Blank n) refl) | whole g x ↦ rw g begins | broken g k ↦ rw g (inner_middle b) ]
inner_blank Fro b = elim (grows Fro b) [ more n g x ↦ rw g (joins (Blank n) refl) | whole g x ↦ rw g begins | broken g k ↦ rw g (inner_middle b) ]
inner_blank From b = elim (grows From b) [ more n g x ↦ rw g (joins (Blank n) refl) | whole g x ↦ rw g begins | broken g k ↦ rw g (inner_middle b) ]

inner : (place : DropState) (b : ℕ) → is_inside place ≡ true → Inner (turn place b)
inner (First m) b h = cc
inner Lost b h = cc
inner Separator b h = cc
inner Start b h = inner_start b
inner Return b h = elim (split (b == 10)) [ inl e ↦ rw e (joins (Blank Nothing) refl) | inr e ↦ rw e (joins Middle refl) ]
inner Middle b h = inner_middle b
inner (Blank m) b h = inner_blank m b

outer_first : (m : Match) (b : ℕ) → turn (First m) b ≡ Passes (place_after (turn (First m) b))
outer_first m b = elim (grows m b) [ more n g x ↦ rw g refl | whole g x ↦ rw g refl | broken g k ↦ rw g refl ]

outer : (place : DropState) (b : ℕ) → is_inside place ≡ false → turn place b ≡ Passes (place_after (turn place b))
outer (First m) b h = outer_first m b
outer Lost b h = refl
outer Separator b h = elim (split (b == 10)) [ inl e ↦ rw e refl | inr e ↦ rw e refl ]
outer Start b h = cc
outer Return b h = cc
outer Middle b h = cc
outer (Blank m) b h = cc

-- the bytes before a message are passed
pub record Passed (done : List (List ℕ)) (hand body : List ℕ) (place : DropState) (pre bs : List ℕ) (to : Skipped) : Type 0 where
  pub reads : read (at done hand body place) bs ≡ read (at done hand body to.place) (drop to.next (pre ++ bs))
  pub within : to.next ≤ length (pre ++ bs)
  pub ready : (is_inside to.place ≡ true) ⊎ (to.next ≡ length (pre ++ bs))

passed_on : (done : List (List ℕ)) (hand body : List ℕ) (place next : DropState) (pre : List ℕ) (b : ℕ) (bs : List ℕ) (to : Skipped) →
    turn place b ≡ Passes next → Passed done hand body next (pre ++ b ∷ []) bs to → Passed done hand body place pre (b ∷ bs) to
passed_on done hand body place next pre b bs to e w =
    let same : (pre ++ b ∷ []) ++ bs ≡ pre ++ b ∷ bs = append_assoc pre (b ∷ []) bs in
    record {
      reads = sym (read-turn (at done hand body place) b bs (Passes next) e) ∙ w.reads ∙ ap (λ x. read (at done hand body to.place) (drop to.next x)) same;
      within = subst (λ x. to.next ≤ length x) same w.within;
      ready = subst (λ x. (is_inside to.place ≡ true) ⊎ (to.next ≡ length x)) same w.ready;
    }

pub passed : (bs pre : List ℕ) (done : List (List ℕ)) (hand body : List ℕ) (place : DropState) → Passed done hand body place pre bs (skipped place (length pre) bs)
unfolding skipped
passed [] pre done hand body place = record {
  reads = ap (λ x. read (at done hand body place) x) (sym (drop_at pre [] (length pre) refl));
  within = rw append-nil (omega arith);
  ready = inr (rw append-nil refl);
}
passed (b ∷ bs) pre done hand body place = elim (split (is_inside place)) [
  | inl e ↦ rw e (record {
    reads = ap (λ x. read (at done hand body place) x) (sym (drop_at pre (b ∷ bs) (length pre) refl));
    within = omega (arith, length-append pre (b ∷ bs));
    ready = inl e;
  })
  | inr e ↦
      let next : DropState = place_after (turn place b) in
      rw e (subst (λ n. Passed done hand body place pre (b ∷ bs) (skipped next n bs)) (length_push pre b)
      (passed_on done hand body place next pre b bs (skipped next (length (pre ++ b ∷ [])) bs) (outer place b e) (passed bs (pre ++ b ∷ []) done hand body next)))
]

-- the reading where a search ends; `text` are the bytes after the separator line, and `full` those that were searched
abbrev pub after_found : List (List ℕ) → List ℕ → List ℕ → Found → Reading
after_found done text full (Cut body next) = read (at (done ++ take body text ∷ []) [] [] Separator) (drop next full)
after_found done text full (End place body) = at done text (take body text) place

pub record Searched (done : List (List ℕ)) (held pre bs : List ℕ) (body : ℕ) (place : DropState) (f : Found) : Type 0 where
  pub reads : read (at done (held ++ pre) (take body (held ++ pre)) place) bs ≡ after_found done (held ++ (pre ++ bs)) (pre ++ bs) f
  pub fits : IsWithin (length held) (length (pre ++ bs)) f

-- at the end, at any place
pub searched_none : (done : List (List ℕ)) (held pre : List ℕ) (body : ℕ) (place : DropState) → body ≤ length (held ++ pre) →
    Searched done held pre [] body place (found (length held) (End place body) (length pre) [])
unfolding found read
searched_none done held pre body place h = record {
  reads = ap (λ x. at done (held ++ x) (take body (held ++ x)) place) (sym (append-nil pre));
  fits = rw append-nil (omega (arith, length-append held pre));
}

searched_on : (done : List (List ℕ)) (held pre : List ℕ) (b : ℕ) (bs : List ℕ) (body body' : ℕ) (place next : DropState) (t : Turn) (f : Found) →
    turn place b ≡ t →
    took (at done (held ++ pre) (take body (held ++ pre)) place) b t ≡ at done (held ++ (pre ++ b ∷ [])) (take body' (held ++ (pre ++ b ∷ []))) next →
    Searched done held (pre ++ b ∷ []) bs body' next f → Searched done held pre (b ∷ bs) body place f
searched_on done held pre b bs body body' place next t f et ek w =
    let same : (pre ++ b ∷ []) ++ bs ≡ pre ++ b ∷ bs = append_assoc pre (b ∷ []) bs in
    record {
      reads = sym (read-turn (at done (held ++ pre) (take body (held ++ pre)) place) b bs t et) ∙ ap (λ s. read s bs) ek ∙ w.reads
          ∙ ap (λ x. after_found done (held ++ x) x f) same;
      fits = subst (λ x. IsWithin (length held) (length x) f) same w.fits;
    }

-- one more byte of the message
took-joins : (done : List (List ℕ)) (held pre : List ℕ) (b body : ℕ) (place next : DropState) → body ≤ length (held ++ pre) →
    took (at done (held ++ pre) (take body (held ++ pre)) place) b (Joins next) ≡ at done (held ++ (pre ++ b ∷ [])) (take body (held ++ (pre ++ b ∷ []))) next
took-joins done held pre b body place next h =
    ap (λ x. at done x (take body (held ++ pre)) next) (append_assoc held pre (b ∷ []))
    ∙ ap (λ x. at done (held ++ (pre ++ b ∷ [])) x next) (sym (take-append-le body (held ++ pre) (b ∷ []) h) ∙ ap (λ x. take body x) (append_assoc held pre (b ∷ [])))

took-empties : (done : List (List ℕ)) (held pre : List ℕ) (b body : ℕ) (place next : DropState) →
    took (at done (held ++ pre) (take body (held ++ pre)) place) b (Empties next)
    ≡ at done (held ++ (pre ++ b ∷ [])) (take (length held + length pre) (held ++ (pre ++ b ∷ []))) next
took-empties done held pre b body place next =
    ap (λ x. at done x (held ++ pre) next) (append_assoc held pre (b ∷ []))
    ∙ ap (λ x. at done (held ++ (pre ++ b ∷ [])) x next)
    (sym (take_at (held ++ pre) (b ∷ []) (length held + length pre) (length-append held pre)) ∙ ap (λ x. take (length held + length pre) x) (append_assoc held pre (b ∷ [])))

searched_cut : (done : List (List ℕ)) (held pre : List ℕ) (b : ℕ) (bs : List ℕ) (body : ℕ) (place : DropState) → turn place b ≡ Begins → body ≤ length (held ++ pre) →
    Searched done held pre (b ∷ bs) body place (Cut body (length pre + 1))
searched_cut done held pre b bs body place et h =
    let front : take body (held ++ pre) ≡ take body (held ++ (pre ++ b ∷ bs)) =
    sym (take-append-le body (held ++ pre) (b ∷ bs) h) ∙ ap (λ x. take body x) (append_assoc held pre (b ∷ bs)) in
    let back : bs ≡ drop (length pre + 1) (pre ++ b ∷ bs) =
    sym (drop_at (pre ++ b ∷ []) bs (length pre + 1) (length_push pre b)) ∙ ap (λ x. drop (length pre + 1) x) (append_assoc pre (b ∷ []) bs) in
    record {
      reads = sym (read-turn (at done (held ++ pre) (take body (held ++ pre)) place) b bs Begins et)
          ∙ ap (λ x. read (at (done ++ x ∷ []) [] [] Separator) bs) front
          ∙ ap (λ x. read (at (done ++ take body (held ++ (pre ++ b ∷ bs)) ∷ []) [] [] Separator) x) back;
      fits = (omega (arith, length-append held pre, length-append pre (b ∷ bs)), omega (arith, length-append pre (b ∷ bs)), omega arith);
    }

pub record Searches (bs : List ℕ) : Type 0 where
  pub go : (done : List (List ℕ)) (held pre : List ℕ) (body : ℕ) (place : DropState) → is_inside place ≡ true → body ≤ length (held ++ pre) →
      Searched done held pre bs body place (found (length held) (End place body) (length pre) bs)

searched_turn : {t : Turn} (bs : List ℕ) (ih : Searches bs) (done : List (List ℕ)) (held pre : List ℕ) (b body : ℕ) (place : DropState) → body ≤ length (held ++ pre) →
    Inner t → turn place b ≡ t → Searched done held pre (b ∷ bs) body place (found (length held) (found_by (length held) body (length pre) t) (length pre + 1) bs)
searched_turn bs ih done held pre b body place h (joins p u) et =
    let k : body ≤ length (held ++ (pre ++ b ∷ [])) = omega (arith, h, length-append held pre, length-append held (pre ++ b ∷ []), length_push pre b) in
    subst (λ n. Searched done held pre (b ∷ bs) body place (found (length held) (End p body) n bs)) (length_push pre b)
    (searched_on done held pre b bs body body place p (Joins p) _ et (took-joins done held pre b body place p h) (ih.go done held (pre ++ b ∷ []) body p u k))
searched_turn bs ih done held pre b body place h (empties p u) et =
    let before : ℕ = length held + length pre in
    let k : before ≤ length (held ++ (pre ++ b ∷ [])) = omega (arith, length-append held (pre ++ b ∷ []), length_push pre b) in
    subst (λ n. Searched done held pre (b ∷ bs) body place (found (length held) (End p before) n bs)) (length_push pre b)
    (searched_on done held pre b bs body before place p (Empties p) _ et (took-empties done held pre b body place p) (ih.go done held (pre ++ b ∷ []) before p u k))
searched_turn bs ih done held pre b body place h begins et =
    subst (λ f. Searched done held pre (b ∷ bs) body place f) (sym (found-cut (length held) body (length pre + 1) (length pre + 1) bs))
    (searched_cut done held pre b bs body place et h)

searches_more : (b : ℕ) (bs : List ℕ) → Searches bs → Searches (b ∷ bs)
unfolding found
searches_more b bs ih = record { go = λ done held pre body place u h. searched_turn bs ih done held pre b body place h (inner place b u) refl }

searches : (bs : List ℕ) → Searches bs
searches [] = record { go = λ done held pre body place u h. searched_none done held pre body place h }
searches (b ∷ bs) = searches_more b bs (searches bs)

-- a search from the start of bytes, of which those in `held` came before
pub searched : (done : List (List ℕ)) (held bs : List ℕ) (body : ℕ) (place : DropState) → (is_inside place ≡ true) ⊎ (bs ≡ []) → body ≤ length held →
    Searched done held [] bs body place (found (length held) (End place body) 0 bs)
searched done held bs body place (inl u) h = (searches bs).go done held [] body place u (omega (arith, h, length-append held []))
searched done held bs body place (inr e) h =
    subst (λ x. Searched done held [] x body place (found (length held) (End place body) 0 x)) (sym e) (searched_none done held [] body place (omega (arith, h, length-append held [])))

-- the part of a search from the first byte of a text
abbrev pub IsParted : List ℕ → List ℕ → Found → Type 0
IsParted bytes text (Cut body next) = IsWhole bytes (take body text) (drop next text)
IsParted bytes text (End place body) = IsOpen bytes text place body

parted_by : (bytes text : List ℕ) (done : List (List ℕ)) (place : DropState) (f : Found) → length text ≤ length bytes →
    read opened_reading bytes ≡ read (at [] [] [] place) text → Searched [] [] [] text 0 place f → IsParted bytes text f
parted_by bytes text done place (Cut body next) short e w = record {
  reads = e ∙ w.reads;
  shorter = omega (arith, length-drop next text, w.fits.1, w.fits.2);
}
parted_by bytes text done place (End p body) short e w = record { reads = e ∙ w.reads; inside = omega (arith, w.fits) }

pub ready_at : (start : Skipped) (bytes text : List ℕ) → text ≡ drop start.next bytes → (is_inside start.place ≡ true) ⊎ (start.next ≡ length bytes) →
    (is_inside start.place ≡ true) ⊎ (text ≡ [])
ready_at start bytes text et (inl u) = inl u
ready_at start bytes text et (inr e) = inr (et ∙ drop_all start.next bytes (omega (arith, e)))

pub parted : (bytes text : List ℕ) (start : Skipped) (f : Found) → start ≡ skipped Separator 0 bytes → text ≡ drop start.next bytes →
    f ≡ found 0 (End start.place 0) 0 text → IsParted bytes text f
parted bytes text start f es et ef =
    let w : Passed [] [] [] Separator [] bytes start = subst (λ x. Passed [] [] [] Separator [] bytes x) (sym es) (passed bytes [] [] [] [] Separator) in
    let ready : (is_inside start.place ≡ true) ⊎ (text ≡ []) = ready_at start bytes text et w.ready in
    let short : length text ≤ length bytes = subst (λ x. length x ≤ length bytes) (sym et) (omega (arith, length-drop start.next bytes)) in
    parted_by bytes text [] start.place f short (w.reads ∙ ap (λ x. read (at [] [] [] start.place) x) (sym et))
    (subst (λ x. Searched [] [] [] text 0 start.place x) (sym ef) (searched [] [] text 0 start.place ready (omega arith)))

pub sought : (done : List (List ℕ)) (held bs : List ℕ) (body : ℕ) (place : DropState) → (is_inside place ≡ true) ⊎ (bs ≡ []) → body ≤ length held →
    read (at done held (take body held) place) bs ≡ after_found done (held ++ bs) bs (found (length held) (End place body) 0 bs)
sought done held bs body place u h =
    ap (λ x. read (at done x (take body x) place) bs) (sym (append-nil held)) ∙ (searched done held bs body place u h).reads
