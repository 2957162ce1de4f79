-- Forms of words, read back.
use Rattle.std.proofs.Common.{◌≡◌, ℕ, true, false, Some, None, List, [], ◌∷◌, ◌++◌, length, take, drop, refl, sym, ◌∙◌, ap, subst}
use Rattle.std.specs.Prelude.{◌==◌, ◌||◌, codes, bytes_eq, Option}
use Rattle.std.proofs.Math.Seq.{drop-append_seam}
use Rattle.std.proofs.lemmas.Bool.{cond-true, cond-false, or_from, both_ways, false_from_ne_true}
use Rattle.std.proofs.lemmas.List.{take-append-drop}
use Rattle.std.proofs.lemmas.List.Folds.{list_any-append}
use Rattle.mh_sequences.specs.Names.{is_seq_name}
use Rattle.mh_sequences.proofs.Bools.{choose}
use Rattle.mh_sequences.proofs.NamePlaces.{same_is}
use Rattle.msg_ranges.specs.declared.counts.Counted.{Counted}
use Rattle.msg_ranges.specs.declared.spec.Base.{Base}
use Rattle.msg_ranges.specs.declared.spec.Spot.{Spot}
use Rattle.msg_ranges.specs.declared.spec.Spec.{Spec}
use Rattle.msg_ranges.specs.declared.spec.Spec.TheVariants.{One, Range, Count, All, Sequence, SequenceCount, SequenceSpot, Negated}
use Rattle.msg_ranges.specs.Forms.{Halves, halves, name_in, count_in, spot_in, one_form, range_form, count_form, single_form, cut_form, plain_form, part_form, cut_sequence_form, sequence_form, negated_form, form_with_sequence, first_of, form_of}
use Rattle.msg_ranges.specs.Selecting.{IsBad}
use Rattle.msg_ranges.specs.Words.{name_text, count_text, spot_text, text_of, IsSpec, has_no_sequence, negates, HasSequence, IsAllowed, Reads}
use Rattle.msg_ranges.proofs.Cutting.{stands, halves_found, halves_none, halves_are}
use Rattle.msg_ranges.proofs.Digits.{name_dash, name_colon}
use Rattle.msg_ranges.proofs.Parts.{name_read, name_is, name_no_dash, name_no_colon, name_not_all, no_name_in, count_read, count_is, spot_read, spot_is, count_no_spot}

-- two parts with a byte between have another byte where one of them has it
stands_joined : (mark between : ℕ) (front back : List ℕ) → stands mark front ≡ false → (between == mark) ≡ false → stands mark back ≡ false → stands mark (front ++ (between ∷ back)) ≡ false
stands_joined mark between front back f b g = list_any-append (λ x. x == mark) front (between ∷ back) ∙ or_from (stands mark front) ((between == mark) || stands mark back) f (or_from (between == mark) (stands mark back) b g)

by_halves : (word : List ℕ) (c d : Option Halves) → halves 58 word ≡ c → halves 45 word ≡ d → plain_form word ≡ cut_form word c d
by_halves word c d e f = λ i. cut_form word (e i) (f i)

-- a form without a sequence, written and read
pub plain_read : (prefix : List ℕ) (spec : Spec) → has_no_sequence spec ≡ true → IsSpec spec → plain_form (text_of prefix spec) ≡ Some spec
plain_read prefix (One a) k h =
    by_halves (name_text a) None None (halves_none 58 (name_text a) (name_no_colon a h)) (halves_none 45 (name_text a) (name_no_dash a h))
    ∙ cond-false (bytes_eq (name_text a) (codes "all")) _ _ (name_not_all a h)
    ∙ ap one_form (name_read a h)
plain_read prefix (Range a b) k h =
    by_halves (name_text a ++ (45 ∷ name_text b)) None (Some (record { front = name_text a; back = name_text b }))
    (halves_none 58 (name_text a ++ (45 ∷ name_text b)) (stands_joined 58 45 (name_text a) (name_text b) (name_no_colon a h.0) refl (name_no_colon b h.1)))
    (halves_found 45 (name_text a) (name_text b) (name_no_dash a h.0))
    ∙ (λ i. range_form (name_read a h.0 i) (name_read b h.1 i))
plain_read prefix (Count a way n) k h =
    by_halves (name_text a ++ (58 ∷ count_text way n)) (Some (record { front = name_text a; back = count_text way n })) (halves 45 (name_text a ++ (58 ∷ count_text way n)))
    (halves_found 58 (name_text a) (count_text way n) (name_no_colon a h.0)) refl
    ∙ (λ i. count_form (name_read a h.0 i) (count_read way n h.1 i))
plain_read prefix All k h = refl
plain_read prefix (Sequence s) k h = absurd (both_ways false refl k)
plain_read prefix (SequenceCount s way n) k h = absurd (both_ways false refl k)
plain_read prefix (SequenceSpot s spot) k h = absurd (both_ways false refl k)
plain_read prefix (Negated s) k h = absurd (both_ways false refl k)

-- what is read so: a form without a sequence, as it is written
pub record IsPlain (word : List ℕ) (spec : Spec) : Type 0 where
  pub kind : has_no_sequence spec ≡ true
  pub proper : IsSpec spec
  pub written : (prefix : List ℕ) → word ≡ text_of prefix spec

one_is : (word : List ℕ) (spec : Spec) (o : Option Base) → name_in word ≡ o → one_form o ≡ Some spec → IsPlain word spec
one_is word spec None e s = cc
one_is word spec (Some a) e s =
    let is = name_is word a e in
    let same : One a ≡ spec = cc in
    subst (IsPlain word) same (record { kind = refl; proper = is.0; written = λ p. is.1 })

range_is : (word : List ℕ) (h : Halves) (spec : Spec) (a b : Option Base) → word ≡ h.front ++ (45 ∷ h.back) → name_in h.front ≡ a → name_in h.back ≡ b → range_form a b ≡ Some spec → IsPlain word spec
range_is word h spec None b w e f s = cc
range_is word h spec (Some a) None w e f s = cc
range_is word h spec (Some a) (Some b) w e f s =
    let x = name_is h.front a e in
    let y = name_is h.back b f in
    let same : Range a b ≡ spec = cc in
    subst (IsPlain word) same (record { kind = refl; proper = (x.0, y.0); written = λ p. w ∙ (λ i. x.1 i ++ (45 ∷ y.1 i)) })

count_form_is : (word : List ℕ) (h : Halves) (spec : Spec) (a : Option Base) (c : Option Counted) → word ≡ h.front ++ (58 ∷ h.back) → name_in h.front ≡ a → count_in h.back ≡ c → count_form a c ≡ Some spec → IsPlain word spec
count_form_is word h spec None c w e f s = cc
count_form_is word h spec (Some a) None w e f s = cc
count_form_is word h spec (Some a) (Some c) w e f s =
    let x = name_is h.front a e in
    let y = count_is h.back c f in
    let same : Count a c.way c.number ≡ spec = cc in
    subst (IsPlain word) same (record { kind = refl; proper = (x.0, y.0); written = λ p. w ∙ (λ i. x.1 i ++ (58 ∷ y.1 i)) })

single_is : (word : List ℕ) (spec : Spec) → single_form word ≡ Some spec → IsPlain word spec
single_is word spec s =
    choose (λ o. o ≡ Some spec → IsPlain word spec) (bytes_eq word (codes "all")) (Some All) (one_form (name_in word))
    (λ e k. let same : All ≡ spec = cc in subst (IsPlain word) same (record { kind = refl; proper = tt; written = λ p. same_is word (codes "all") e }))
    (λ e k. one_is word spec (name_in word) refl k)
    s

cut_is : (word : List ℕ) (spec : Spec) (c d : Option Halves) → halves 58 word ≡ c → halves 45 word ≡ d → cut_form word c d ≡ Some spec → IsPlain word spec
cut_is word spec (Some c) d e f s = count_form_is word c spec (name_in c.front) (count_in c.back) (halves_are 58 word c e) refl refl s
cut_is word spec None (Some d) e f s = range_is word d spec (name_in d.front) (name_in d.back) (halves_are 45 word d f) refl refl s
cut_is word spec None None e f s = single_is word spec s

pub plain_is : (word : List ℕ) (spec : Spec) → plain_form word ≡ Some spec → IsPlain word spec
plain_is word spec s = cut_is word spec (halves 58 word) (halves 45 word) refl refl s

allowed_plain : (prefix word : List ℕ) (spec : Spec) → has_no_sequence spec ≡ true → IsAllowed prefix word spec
allowed_plain prefix word (One a) k = tt
allowed_plain prefix word (Range a b) k = tt
allowed_plain prefix word (Count a way n) k = tt
allowed_plain prefix word All k = tt
allowed_plain prefix word (Sequence s) k = absurd (both_ways false refl k)
allowed_plain prefix word (SequenceCount s way n) k = absurd (both_ways false refl k)
allowed_plain prefix word (SequenceSpot s spot) k = absurd (both_ways false refl k)
allowed_plain prefix word (Negated s) k = absurd (both_ways false refl k)

-- a word with a form without a sequence is read so
pub plain_reads : (prefix word : List ℕ) (spec : Spec) → plain_form word ≡ Some spec → Reads prefix word spec
plain_reads prefix word spec s =
    let is = plain_is word spec s in
    record { written = is.written prefix; proper = is.proper; allowed = allowed_plain prefix word spec is.kind }

not_all : (s : List ℕ) → is_seq_name s ≡ true → bytes_eq s (codes "all") ≡ false
unfolding is_seq_name
not_all s h = false_from_ne_true (bytes_eq s (codes "all")) (λ t. let never : is_seq_name (codes "all") ≡ true = ap is_seq_name (sym (same_is s (codes "all") t)) ∙ h in both_ways (is_seq_name (codes "all")) refl never)

-- a sequence's name has no other form
name_not_plain : (s : List ℕ) → is_seq_name s ≡ true → plain_form s ≡ None
name_not_plain s h =
    by_halves s None None (halves_none 58 s (name_colon s h)) (halves_none 45 s (name_dash s h))
    ∙ cond-false (bytes_eq s (codes "all")) _ _ (not_all s h)
    ∙ ap one_form (no_name_in s h)

part_not_plain : (s back : List ℕ) → is_seq_name s ≡ true → plain_form (s ++ (58 ∷ back)) ≡ None
part_not_plain s back h =
    by_halves (s ++ (58 ∷ back)) (Some (record { front = s; back = back })) (halves 45 (s ++ (58 ∷ back))) (halves_found 58 s back (name_colon s h)) refl
    ∙ ap (λ a. count_form a (count_in back)) (no_name_in s h)

sequence_part : (s back : List ℕ) → is_seq_name s ≡ true → sequence_form (s ++ (58 ∷ back)) ≡ part_form s (spot_in back) (count_in back)
sequence_part s back h = ap (cut_sequence_form (s ++ (58 ∷ back))) (halves_found 58 s back (name_colon s h)) ∙ cond-true (is_seq_name s) _ _ h

second : (prefix word : List ℕ) (o : Option Spec) → plain_form word ≡ None → form_with_sequence prefix word ≡ o → form_of prefix word ≡ o
second prefix word o p e = ap (λ z. first_of z (form_with_sequence prefix word)) p ∙ e

by_sequence : (prefix word : List ℕ) (o : Option Spec) → negates prefix word ≡ false → sequence_form word ≡ o → form_with_sequence prefix word ≡ o
by_sequence prefix word o n e = cond-false (negates prefix word) _ _ n ∙ e

-- a word that begins with a prefix is the prefix and the rest
begins : (prefix word : List ℕ) → negates prefix word ≡ true → word ≡ prefix ++ drop (length prefix) word
begins [] word h = absurd (both_ways false refl h)
begins (b ∷ prefix) word h = sym (take-append-drop (length (b ∷ prefix)) word) ∙ ap (λ l. l ++ drop (length (b ∷ prefix)) word) (sym (same_is (b ∷ prefix) (take (length (b ∷ prefix)) word) h))

plain_none : (word : List ℕ) → HasSequence word → plain_form word ≡ None
plain_none word never = by (plain_form word) refl
  where
    by : (o : Option Spec) → plain_form word ≡ o → o ≡ None
    by None e = refl
    by (Some spec) e = let is = plain_is word spec e in absurd (never spec is.kind is.proper (is.written []))

-- every form, written and read
text_read : (prefix word : List ℕ) (spec : Spec) → word ≡ text_of prefix spec → IsSpec spec → IsAllowed prefix word spec → form_of prefix word ≡ Some spec
text_read prefix word (One a) w h ok = ap (λ z. first_of z (form_with_sequence prefix word)) (ap plain_form w ∙ plain_read prefix (One a) refl h)
text_read prefix word (Range a b) w h ok = ap (λ z. first_of z (form_with_sequence prefix word)) (ap plain_form w ∙ plain_read prefix (Range a b) refl h)
text_read prefix word (Count a way n) w h ok = ap (λ z. first_of z (form_with_sequence prefix word)) (ap plain_form w ∙ plain_read prefix (Count a way n) refl h)
text_read prefix word All w h ok = ap (λ z. first_of z (form_with_sequence prefix word)) (ap plain_form w ∙ plain_read prefix All refl h)
text_read prefix word (Sequence s) w h ok =
    second prefix word (Some (Sequence s)) (ap plain_form w ∙ name_not_plain s h)
    (by_sequence prefix word (Some (Sequence s)) ok (ap sequence_form w ∙ ap (cut_sequence_form s) (halves_none 58 s (name_colon s h)) ∙ cond-true (is_seq_name s) _ _ h))
text_read prefix word (SequenceCount s way n) w h ok =
    second prefix word (Some (SequenceCount s way n)) (ap plain_form w ∙ part_not_plain s (count_text way n) h.0)
    (by_sequence prefix word (Some (SequenceCount s way n)) ok (ap sequence_form w ∙ sequence_part s (count_text way n) h.0 ∙ (λ i. part_form s (count_no_spot way n h.1 i) (count_read way n h.1 i))))
text_read prefix word (SequenceSpot s spot) w h ok =
    second prefix word (Some (SequenceSpot s spot)) (ap plain_form w ∙ part_not_plain s (spot_text spot) h)
    (by_sequence prefix word (Some (SequenceSpot s spot)) ok (ap sequence_form w ∙ sequence_part s (spot_text spot) h ∙ ap (λ o. part_form s o (count_in (spot_text spot))) (spot_read spot)))
text_read prefix word (Negated s) w h ok =
    let rest : drop (length prefix) word ≡ s = ap (drop (length prefix)) w ∙ drop-append_seam prefix s in
    second prefix word (Some (Negated s)) (plain_none word ok.1)
    (cond-true (negates prefix word) _ _ ok.0 ∙ ap negated_form rest ∙ cond-true (is_seq_name s) _ _ h)

pub form_read : (prefix word : List ℕ) (spec : Spec) → Reads prefix word spec → form_of prefix word ≡ Some spec
form_read prefix word spec r = text_read prefix word spec r.written r.proper r.allowed

part_is : (prefix word s back : List ℕ) (spec : Spec) (o : Option Spot) (c : Option Counted) → negates prefix word ≡ false → word ≡ s ++ (58 ∷ back) → is_seq_name s ≡ true → spot_in back ≡ o → count_in back ≡ c → part_form s o c ≡ Some spec → Reads prefix word spec
part_is prefix word s back spec (Some spot) c n w h e f k =
    let same : SequenceSpot s spot ≡ spec = cc in
    subst (Reads prefix word) same (record { written = w ∙ ap (λ l. s ++ (58 ∷ l)) (spot_is back spot e); proper = h; allowed = n })
part_is prefix word s back spec None (Some c) n w h e f k =
    let is = count_is back c f in
    let same : SequenceCount s c.way c.number ≡ spec = cc in
    subst (Reads prefix word) same (record { written = w ∙ ap (λ l. s ++ (58 ∷ l)) is.1; proper = (h, is.0); allowed = n })
part_is prefix word s back spec None None n w h e f k = cc

sequence_is : (prefix word : List ℕ) (spec : Spec) (o : Option Halves) → negates prefix word ≡ false → halves 58 word ≡ o → cut_sequence_form word o ≡ Some spec → Reads prefix word spec
sequence_is prefix word spec None n e k =
    choose (λ z. z ≡ Some spec → Reads prefix word spec) (is_seq_name word) (Some (Sequence word)) None
    (λ h x. let same : Sequence word ≡ spec = cc in subst (Reads prefix word) same (record { written = refl; proper = h; allowed = n }))
    (λ h x. cc)
    k
sequence_is prefix word spec (Some c) n e k =
    choose (λ z. z ≡ Some spec → Reads prefix word spec) (is_seq_name c.front) (part_form c.front (spot_in c.back) (count_in c.back)) None
    (λ h x. part_is prefix word c.front c.back spec (spot_in c.back) (count_in c.back) n (halves_are 58 word c e) h refl refl x)
    (λ h x. cc)
    k

has_sequence : (word : List ℕ) → plain_form word ≡ None → HasSequence word
has_sequence word none other k h w = let never : None ≡ Some other = sym none ∙ ap plain_form w ∙ plain_read [] other k h in cc

negated_is : (prefix word : List ℕ) (spec : Spec) → plain_form word ≡ None → negates prefix word ≡ true → negated_form (drop (length prefix) word) ≡ Some spec → Reads prefix word spec
negated_is prefix word spec none n k =
    choose (λ z. z ≡ Some spec → Reads prefix word spec) (is_seq_name (drop (length prefix) word)) (Some (Negated (drop (length prefix) word))) None
    (λ h x. let same : Negated (drop (length prefix) word) ≡ spec = cc in subst (Reads prefix word) same (record { written = begins prefix word n; proper = h; allowed = (n, has_sequence word none) }))
    (λ h x. cc)
    k

-- what is read is as it is written
pub with_sequence_reads : (prefix word : List ℕ) (spec : Spec) → plain_form word ≡ None → form_with_sequence prefix word ≡ Some spec → Reads prefix word spec
with_sequence_reads prefix word spec none k =
    choose (λ z. z ≡ Some spec → Reads prefix word spec) (negates prefix word) (negated_form (drop (length prefix) word)) (sequence_form word)
    (λ n x. negated_is prefix word spec none n x)
    (λ n x. sequence_is prefix word spec (halves 58 word) n refl x)
    k

-- there is one reading, or none
pub one_reading : (prefix word : List ℕ) (a b : Spec) → form_of prefix word ≡ Some a → Reads prefix word b → b ≡ a
one_reading prefix word a b e r = let same : Some b ≡ Some a = sym (form_read prefix word b r) ∙ e in cc

pub no_reading : (prefix word : List ℕ) → form_of prefix word ≡ None → IsBad prefix word
no_reading prefix word e spec r = let never : Some spec ≡ None = sym (form_read prefix word spec r) ∙ e in cc

-- the form that was found first or second
pub found_first : (prefix word : List ℕ) (spec : Spec) → plain_form word ≡ Some spec → form_of prefix word ≡ Some spec
found_first prefix word spec e = ap (λ z. first_of z (form_with_sequence prefix word)) e

pub found_second : (prefix word : List ℕ) (o : Option Spec) → plain_form word ≡ None → form_with_sequence prefix word ≡ o → form_of prefix word ≡ o
found_second prefix word o p e = second prefix word o p e
