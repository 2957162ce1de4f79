-- The first 13 bytes of a word tell what it is.
use Rattle.std.proofs.Common.{◌≡◌, ℕ, ◌+◌, ◌<◌, ◌≤◌, Bool, true, false, eqb, Option, Some, None, List, [], ◌∷◌, length, take, drop, map, refl, sym, ap, ◌∙◌, arith, take_all, ℤ}
use Rattle.std.specs.Prelude.{◌==◌, if◌then◌else◌, bytes_eq, codes}
use Rattle.std.specs.Char.{to_ascii_lowercase}
use Rattle.std.proofs.lemmas.Slice.Eq.{bytes_eq-Decides}
use Rattle.std.proofs.lemmas.Bool.{cases_lt}
use Rattle.std.proofs.Common.{inl, inr}
use Rattle.std.proofs.lemmas.Bool.Decides.{nat_tests}
use Rattle.std.proofs.lemmas.List.{length-map, length-take-le, drop-drop}
use Rattle.mail_dates.specs.declared.mail_date.MailDate.{MailDate}
use Rattle.mail_dates.specs.declared.time.Time.{Time}
use Rattle.mail_dates.specs.declared.names.Case.TheVariants.{AsWritten, Any}
use Rattle.mail_dates.specs.Numbers.{digit_of, Lead, two_digits, one_digit, short_lead, whole, short_number, time_to_second, after_colon, second_in, time_to_minute, minute_in, time_from, time_in, decimal, year_by, year_in, numeric_zone}
use Rattle.mail_dates.specs.Names.{same, month_in, named_zone}
use Rattle.mail_dates.specs.Reading.{zone_in, first_by, or_utc, dated, date_from}
use Rattle.mail_dates.specs.Seen.{WordView}
use Rattle.mail_dates.specs.WordView.{TakesWord}

front_by : {A : Type 0} (f : List ℕ → Option A) (word : List ℕ) → ((w : List ℕ) → 9 < length w → f w ≡ None) → f (take 13 word) ≡ f word
front_by f word none = elim (cases_lt 13 (length word)) [
  | inl more ↦ none (take 13 word) (omega (arith, length-take-le 13 word (omega arith))) ∙ sym (none word (omega arith))
  | inr fits ↦ ap f (take_all 13 word fits)
]

-- a word that was taken, read by its front
pub word_read : {A : Type 0} (f : List ℕ → Option A) (old new : List (List ℕ)) (view : WordView) (front : List ℕ) (r : Option A) → ((w : List ℕ) → 9 < length w → f w ≡ None) →
    TakesWord old (Some view) new → front ≡ view.front → r ≡ f front → r ≡ first_by f old
word_read f old new view front r none takes ef er =
    er ∙ ap f (ef ∙ ap (λ v. v.front) takes.2) ∙ front_by f takes.0 none ∙ ap (first_by f) (sym takes.1)

two_len : (a b : ℕ) (d : Option ℕ) (rest : List ℕ) → length rest ≤ length (two_digits a d b rest).rest
two_len a b None rest = omega arith
two_len a b (Some d) rest = omega arith

one_len : (d : Option ℕ) (rest : List ℕ) (l : Lead) → one_digit d rest ≡ Some l → length rest ≤ length l.rest + 1
one_len None rest l e = cc e
one_len (Some a) [] l e = omega arith
one_len (Some a) (b ∷ rest) l e =
    let same : two_digits a (digit_of b) b rest ≡ l = cc e in
    let len = two_len a b (digit_of b) rest in
    omega (arith, len, ap (λ x. length x.rest) same)

lead_len : (word : List ℕ) (l : Lead) → short_lead word ≡ Some l → length word ≤ length l.rest + 2
lead_len [] l e = cc e
lead_len (b ∷ rest) l e = let len = one_len (digit_of b) rest l e in omega (arith, len)

not_zero : (n : ℕ) → 0 < n → eqb n 0 ≡ false
not_zero n lt = grind (arith, nat_tests)

whole_long : (lead : Option Lead) → ((l : Lead) → lead ≡ Some l → 0 < length l.rest) → whole lead ≡ None
whole_long None more = refl
whole_long (Some l) more = rw (not_zero (length l.rest) (more l refl)) refl

pub short_long : (word : List ℕ) → 2 < length word → short_number word ≡ None
short_long word lt = whole_long (short_lead word) (λ l e. omega (arith, lt, lead_len word l e))

colon_by : (t : Bool) (rest r : List ℕ) → (if t then Some rest else None) ≡ Some r → length rest ≡ length r
colon_by true rest r e = let same : rest ≡ r = cc e in ap length same
colon_by false rest r e = cc e

colon_len : (word r : List ℕ) → after_colon word ≡ Some r → length word ≡ length r + 1
colon_len [] r e = cc e
colon_len (b ∷ rest) r e = omega (arith, colon_by (b == 58) rest r e)

second_long : (h m : ℕ) (o : Option (List ℕ)) → ((w : List ℕ) → o ≡ Some w → 2 < length w) → second_in h m o ≡ None
second_long h m None more = refl
second_long h m (Some w) more = ap (time_to_second h m) (short_long w (more w refl))

to_minute_long : (h : ℕ) (lead : Option Lead) → ((l : Lead) → lead ≡ Some l → 3 < length l.rest) → time_to_minute h lead ≡ None
to_minute_long h None more = refl
to_minute_long h (Some l) more =
    let long = more l refl in
    rw (not_zero (length l.rest) (omega (arith, long))) (second_long h l.value (after_colon l.rest) (λ w e. omega (arith, long, colon_len l.rest w e)))

minute_long : (h : ℕ) (o : Option (List ℕ)) → ((w : List ℕ) → o ≡ Some w → 5 < length w) → minute_in h o ≡ None
minute_long h None more = refl
minute_long h (Some w) more = let long = more w refl in to_minute_long h (short_lead w) (λ l e. omega (arith, long, lead_len w l e))

from_long : (lead : Option Lead) → ((l : Lead) → lead ≡ Some l → 6 < length l.rest) → time_from lead ≡ None
from_long None more = refl
from_long (Some l) more = let long = more l refl in minute_long l.value (after_colon l.rest) (λ w e. omega (arith, long, colon_len l.rest w e))

pub time_long : (word : List ℕ) → 9 < length word → time_in word ≡ None
time_long word lt = from_long (short_lead word) (λ l e. omega (arith, lt, lead_len word l e))

not_four : (n : ℕ) → 4 < n → eqb n 4 ≡ false
not_four n lt = grind (arith, nat_tests)

year_none : (n : ℕ) (x : Option ℕ) → 4 < n → year_by n x ≡ None
year_none n None lt = refl
year_none n (Some v) lt =
    let two : eqb n 2 ≡ false = grind (arith, nat_tests) in
    let three : eqb n 3 ≡ false = grind (arith, nat_tests) in
    rw (two, three, not_four n lt) refl

pub year_long : (word : List ℕ) → 9 < length word → year_in word ≡ None
year_long word lt = year_none (length word) (decimal word) (omega (arith, lt))

numeric_long : (word : List ℕ) → 9 < length word → numeric_zone word ≡ None
numeric_long [] lt = refl
numeric_long (s ∷ rest) lt = rw (not_four (length rest) (omega (arith, lt))) refl

differ_by : (t : Bool) (a b : List ℕ) → bytes_eq a b ≡ t → (length a ≡ length b → ⊥) → bytes_eq a b ≡ false
differ_by false a b e other = e
differ_by true a b e other = absurd (other (ap length ((bytes_eq-Decides a b).0 e)))

differ : (name word : List ℕ) → length name < length word → same Any word name ≡ false
differ name word lt =
    differ_by (same Any word name) (map to_ascii_lowercase word) (map to_ascii_lowercase name) refl (λ e. omega (arith, lt, sym (length-map word to_ascii_lowercase) ∙ e ∙ length-map name to_ascii_lowercase))

named_long : (word : List ℕ) → 9 < length word → named_zone word ≡ None
named_long word lt =
    rw (
      differ (codes "UT") word (omega (arith, lt)),
      differ (codes "GMT") word (omega (arith, lt)),
      differ (codes "EDT") word (omega (arith, lt)),
      differ (codes "EST") word (omega (arith, lt)),
      differ (codes "CDT") word (omega (arith, lt)),
      differ (codes "CST") word (omega (arith, lt)),
      differ (codes "MDT") word (omega (arith, lt)),
      differ (codes "MST") word (omega (arith, lt)),
      differ (codes "PDT") word (omega (arith, lt)),
      differ (codes "PST") word (omega (arith, lt)),
    ) refl

pub zone_long : (word : List ℕ) → 9 < length word → zone_in word ≡ None
zone_long word lt = rw (numeric_long word lt) (named_long word lt)

-- the parts of a date, one behind the other
pub date_read : (l w1 w2 w3 w4 : List (List ℕ)) (year month day : Option ℕ) (time : Option Time) (offset : ℤ) (r : Option MailDate) → day ≡ first_by short_number l → w1 ≡ drop 1 l →
    month ≡ first_by (month_in AsWritten) w1 → w2 ≡ drop 1 w1 → year ≡ first_by year_in w2 → w3 ≡ drop 1 w2 → time ≡ first_by time_in w3 → w4 ≡ drop 1 w3 →
    offset ≡ or_utc (first_by zone_in w4) → r ≡ dated year month day time offset → r ≡ date_from l
date_read l w1 w2 w3 w4 year month day time offset r ed e1 em e2 ey e3 et e4 eo er =
    let two : w2 ≡ drop 2 l = e2 ∙ ap (drop 1) e1 ∙ drop-drop 1 1 l in
    let three : w3 ≡ drop 3 l = e3 ∙ ap (drop 1) two ∙ drop-drop 1 2 l in
    let four : w4 ≡ drop 4 l = e4 ∙ ap (drop 1) three ∙ drop-drop 1 3 l in
    er ∙ rw (ed, em, ey, et, eo, e1, two, three, four) refl
