-- Names, counts and places in sequences, read back.
use Rattle.std.proofs.Common.{◌≡◌, ℕ, ◌<◌, true, false, Some, None, List, [], ◌∷◌, length, refl, sym, ◌∙◌, ap, subst, arith}
use Rattle.std.specs.Prelude.{◌==◌, decimal, codes, bytes_eq, Option}
use Rattle.std.specs.List.{list_all}
use Rattle.std.proofs.lemmas.Bool.{eqb-true, ne_eqb, and_parts, cond-false}
use Rattle.mh_base.specs.Numbers.{IsMsgNum, number_of}
use Rattle.mh_sequences.specs.Names.{is_seq_name}
use Rattle.mh_sequences.proofs.Bools.{choose}
use Rattle.mh_sequences.proofs.ListText.{number_read}
use Rattle.mh_sequences.proofs.NamePlaces.{same_is}
use Rattle.msg_ranges.specs.declared.counts.Counted.{Counted}
use Rattle.msg_ranges.specs.declared.spec.Base.{Base}
use Rattle.msg_ranges.specs.declared.spec.Base.TheVariants.{Number, First, Last, Cur, Prev, Next}
use Rattle.msg_ranges.specs.declared.spec.Way.{Way}
use Rattle.msg_ranges.specs.declared.spec.Way.TheVariants.{Unsigned, Plus, Minus}
use Rattle.msg_ranges.specs.declared.spec.Spot.{Spot}
use Rattle.msg_ranges.specs.declared.spec.Spot.TheVariants.{First as FirstSpot, Last as LastSpot, Next as NextSpot, Prev as PrevSpot}
use Rattle.msg_ranges.specs.Forms.{name_in, number_name, count_in, signed, spot_in}
use Rattle.msg_ranges.specs.Words.{name_text, count_text, spot_text, IsName}
use Rattle.msg_ranges.proofs.Cutting.{stands}
use Rattle.msg_ranges.proofs.Digits.{digits, some_digit, digit_range, number_dash, number_colon, no_word, number_is, no_name}
use Rattle.mh_base.specs.Characters.{is_digit}

-- a name, written and read
pub name_read : (a : Base) → IsName a → name_in (name_text a) ≡ Some a
name_read (Number n) h =
    let d = digits n h in
    cond-false (bytes_eq (decimal n) (codes "first")) _ _ (no_word (decimal n) (codes "first") d refl)
    ∙ cond-false (bytes_eq (decimal n) (codes "last")) _ _ (no_word (decimal n) (codes "last") d refl)
    ∙ cond-false (bytes_eq (decimal n) (codes "cur")) _ _ (no_word (decimal n) (codes "cur") d refl)
    ∙ cond-false (bytes_eq (decimal n) (codes "prev")) _ _ (no_word (decimal n) (codes "prev") d refl)
    ∙ cond-false (bytes_eq (decimal n) (codes "next")) _ _ (no_word (decimal n) (codes "next") d refl)
    ∙ ap number_name (number_read n h)
name_read First h = refl
name_read Last h = refl
name_read Cur h = refl
name_read Prev h = refl
name_read Next h = refl

word_is : (text word : List ℕ) (b a : Base) → IsName b → word ≡ name_text b → bytes_eq text word ≡ true → Some b ≡ Some a → IsName a × (text ≡ name_text a)
word_is text word b a h w e s =
    let same : b ≡ a = cc in
    subst (λ z. IsName z × (text ≡ name_text z)) same (h, same_is text word e ∙ w)

number_name_is : (text : List ℕ) (a : Base) (o : Option ℕ) → number_of text ≡ o → number_name o ≡ Some a → IsName a × (text ≡ name_text a)
number_name_is text a None e s = cc
number_name_is text a (Some n) e s =
    let same : Number n ≡ a = cc in
    subst (λ z. IsName z × (text ≡ name_text z)) same (number_is text n e)

-- what is read as a name is its text
pub name_is : (text : List ℕ) (a : Base) → name_in text ≡ Some a → IsName a × (text ≡ name_text a)
name_is text a s =
    choose (λ o. o ≡ Some a → IsName a × (text ≡ name_text a)) (bytes_eq text (codes "first")) _ _ (λ e. word_is text (codes "first") First a tt refl e)
    (λ x. choose (λ o. o ≡ Some a → IsName a × (text ≡ name_text a)) (bytes_eq text (codes "last")) _ _ (λ e. word_is text (codes "last") Last a tt refl e)
    (λ x. choose (λ o. o ≡ Some a → IsName a × (text ≡ name_text a)) (bytes_eq text (codes "cur")) _ _ (λ e. word_is text (codes "cur") Cur a tt refl e)
    (λ x. choose (λ o. o ≡ Some a → IsName a × (text ≡ name_text a)) (bytes_eq text (codes "prev")) _ _ (λ e. word_is text (codes "prev") Prev a tt refl e)
    (λ x. choose (λ o. o ≡ Some a → IsName a × (text ≡ name_text a)) (bytes_eq text (codes "next")) _ _ (λ e. word_is text (codes "next") Next a tt refl e)
    (λ x. number_name_is text a (number_of text) refl)))))
    s

-- no name has a dash or a colon
pub name_no_dash : (a : Base) → IsName a → stands 45 (name_text a) ≡ false
name_no_dash (Number n) h = number_dash n h
name_no_dash First h = refl
name_no_dash Last h = refl
name_no_dash Cur h = refl
name_no_dash Prev h = refl
name_no_dash Next h = refl

pub name_no_colon : (a : Base) → IsName a → stands 58 (name_text a) ≡ false
name_no_colon (Number n) h = number_colon n h
name_no_colon First h = refl
name_no_colon Last h = refl
name_no_colon Cur h = refl
name_no_colon Prev h = refl
name_no_colon Next h = refl

-- no name is all
pub name_not_all : (a : Base) → IsName a → bytes_eq (name_text a) (codes "all") ≡ false
name_not_all (Number n) h = no_word (decimal n) (codes "all") (digits n h) refl
name_not_all First h = refl
name_not_all Last h = refl
name_not_all Cur h = refl
name_not_all Prev h = refl
name_not_all Next h = refl

-- no name is a sequence's
pub name_no_sequence : (a : Base) → IsName a → is_seq_name (name_text a) ≡ true → ⊥
unfolding is_seq_name
name_no_sequence (Number n) h t = no_name n h t
name_no_sequence First h t = let never : false ≡ true = t in cc
name_no_sequence Last h t = let never : false ≡ true = t in cc
name_no_sequence Cur h t = let never : false ≡ true = t in cc
name_no_sequence Prev h t = let never : false ≡ true = t in cc
name_no_sequence Next h t = let never : false ≡ true = t in cc

pub no_name_in : (s : List ℕ) → is_seq_name s ≡ true → name_in s ≡ None
no_name_in s h = by (name_in s) refl
  where
    by : (o : Option Base) → name_in s ≡ o → o ≡ None
    by None e = refl
    by (Some a) e = let is = name_is s a e in absurd (name_no_sequence a is.0 (ap is_seq_name (sym is.1) ∙ h))

-- a count, written and read
plain_count : (n : ℕ) (ds : List ℕ) → list_all is_digit ds ≡ true → 0 < length ds → number_of ds ≡ Some n → count_in ds ≡ Some (record { way = Unsigned; number = n })
plain_count n [] d some e = absurd (omega arith)
plain_count n (b ∷ ds) d some e =
    let r = digit_range b (and_parts (is_digit b) (list_all is_digit ds) d).0 in
    cond-false (b == 43) _ _ (ne_eqb b 43 (λ x. omega arith))
    ∙ cond-false (b == 45) _ _ (ne_eqb b 45 (λ x. omega arith))
    ∙ ap (signed Unsigned) e

pub count_read : (way : Way) (n : ℕ) → IsMsgNum n → count_in (count_text way n) ≡ Some (record { way = way; number = n })
count_read Unsigned n h = plain_count n (decimal n) (digits n h) (some_digit n h) (number_read n h)
count_read Plus n h = ap (signed Plus) (number_read n h)
count_read Minus n h = ap (signed Minus) (number_read n h)

signed_is : (way : Way) (digits text : List ℕ) (c : Counted) (o : Option ℕ) → number_of digits ≡ o → ((n : ℕ) → digits ≡ decimal n → text ≡ count_text way n) → signed way o ≡ Some c → IsMsgNum c.number × (text ≡ count_text c.way c.number)
signed_is way digits text c None e w s = cc
signed_is way digits text c (Some n) e w s =
    let same : record { way = way; number = n } ≡ c = cc in
    let is = number_is digits n e in
    subst (λ z. IsMsgNum z.number × (text ≡ count_text z.way z.number)) same (is.0, w n is.1)

-- what is read as a count is its text
pub count_is : (text : List ℕ) (c : Counted) → count_in text ≡ Some c → IsMsgNum c.number × (text ≡ count_text c.way c.number)
count_is [] c s = cc
count_is (b ∷ ds) c s =
    choose (λ o. o ≡ Some c → IsMsgNum c.number × (b ∷ ds ≡ count_text c.way c.number)) (b == 43) _ _
    (λ e. signed_is Plus ds (b ∷ ds) c (number_of ds) refl (λ n d. (λ i. eqb-true b 43 e i ∷ d i)))
    (λ x. choose (λ o. o ≡ Some c → IsMsgNum c.number × (b ∷ ds ≡ count_text c.way c.number)) (b == 45) _ _
    (λ e. signed_is Minus ds (b ∷ ds) c (number_of ds) refl (λ n d. (λ i. eqb-true b 45 e i ∷ d i)))
    (λ y. signed_is Unsigned (b ∷ ds) (b ∷ ds) c (number_of (b ∷ ds)) refl (λ n d. d)))
    s

-- a place in a sequence, written and read
pub spot_read : (s : Spot) → spot_in (spot_text s) ≡ Some s
spot_read FirstSpot = refl
spot_read LastSpot = refl
spot_read NextSpot = refl
spot_read PrevSpot = refl

spot_word : (text word : List ℕ) (b a : Spot) → word ≡ spot_text b → bytes_eq text word ≡ true → Some b ≡ Some a → text ≡ spot_text a
spot_word text word b a w e s = let same : b ≡ a = cc in same_is text word e ∙ w ∙ ap spot_text same

pub spot_is : (text : List ℕ) (a : Spot) → spot_in text ≡ Some a → text ≡ spot_text a
spot_is text a s =
    choose (λ o. o ≡ Some a → text ≡ spot_text a) (bytes_eq text (codes "first")) _ _ (λ e. spot_word text (codes "first") FirstSpot a refl e)
    (λ x. choose (λ o. o ≡ Some a → text ≡ spot_text a) (bytes_eq text (codes "last")) _ _ (λ e. spot_word text (codes "last") LastSpot a refl e)
    (λ x. choose (λ o. o ≡ Some a → text ≡ spot_text a) (bytes_eq text (codes "next")) _ _ (λ e. spot_word text (codes "next") NextSpot a refl e)
    (λ x. choose (λ o. o ≡ Some a → text ≡ spot_text a) (bytes_eq text (codes "prev")) _ _ (λ e. spot_word text (codes "prev") PrevSpot a refl e)
    (λ x e. cc))))
    s

no_spot : (ds : List ℕ) → list_all is_digit ds ≡ true → spot_in ds ≡ None
no_spot ds d =
    cond-false (bytes_eq ds (codes "first")) _ _ (no_word ds (codes "first") d refl)
    ∙ cond-false (bytes_eq ds (codes "last")) _ _ (no_word ds (codes "last") d refl)
    ∙ cond-false (bytes_eq ds (codes "next")) _ _ (no_word ds (codes "next") d refl)
    ∙ cond-false (bytes_eq ds (codes "prev")) _ _ (no_word ds (codes "prev") d refl)

-- no count is a place in a sequence
pub count_no_spot : (way : Way) (n : ℕ) → IsMsgNum n → spot_in (count_text way n) ≡ None
count_no_spot Unsigned n h = no_spot (decimal n) (digits n h)
count_no_spot Plus n h = refl
count_no_spot Minus n h = refl
