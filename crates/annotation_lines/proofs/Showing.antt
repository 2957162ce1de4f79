-- The bytes of a date.
use Rattle.std.proofs.Common.{◌≡◌, ℕ, ◌+◌, ◌/◌, ◌%◌, ◌&&◌, ◌<◌, ◌≤◌, nat_le, Bool, true, List, [], ◌∷◌, ◌++◌, refl, arith, ℤ, pos, negsuc, unsigned_abs, codes}
use Rattle.std.specs.List.{All, list_all}
use Rattle.std.proofs.lemmas.Bool.{and_parts, leb-true}
use Rattle.std.proofs.lemmas.Int.{ints}
use Rattle.std.proofs.lemmas.List.Elements.{All-append, All-cons, All-nil, All-weaker}
use Rattle.std.proofs.lemmas.List.Sums.{AllPass-from_list_all}
use Rattle.std.proofs.lemmas.Str.Ascii.{IsAscii-from_all, encodes-IsAscii}
use Rattle.std.specs.Str.{encode_utf8_all}
use Rattle.jiff_core.proofs.CalendarLemmas.{days_in_month_bounds}
use Rattle.mail_dates.specs.declared.mail_date.MailDate.{MailDate}
use Rattle.mail_dates.specs.Clocks.{IsMailDate, weekday_on, day_number}
use Rattle.mail_dates.specs.Shown.{weekday_name, month_name, two, four, sign_of, zone_text, tws_of}

-- letters, digits and what may stand between them
is_plain : ℕ → Bool
is_plain b = nat_le 32 b && nat_le b 122

weekday_plain : (w : ℕ) → list_all is_plain (weekday_name w) ≡ true
unfolding is_plain
weekday_plain w = grind arith

month_plain : (m : ℕ) → list_all is_plain (month_name m) ≡ true
unfolding is_plain
month_plain m = grind arith

sign_plain : (z : ℤ) → list_all is_plain (sign_of z) ≡ true
unfolding is_plain
sign_plain (pos n) = refl
sign_plain (negsuc n) = refl

-- what holds of each such byte, and of the bytes that are made of numbers, holds of each byte of a date
module _ (P : ℕ → Type 0) (each : (b : ℕ) → 32 ≤ b → b ≤ 122 → P b) where
  plain_all : (xs : List ℕ) → list_all is_plain xs ≡ true → All P xs
  unfolding is_plain
  plain_all xs h = All-weaker (λ b. is_plain b ≡ true) P
      (λ b e. let parts = and_parts (nat_le 32 b) (nat_le b 122) e in each b (leb-true 32 b parts.0) (leb-true b 122 parts.1)) xs (AllPass-from_list_all is_plain xs h)

  two_all : (n : ℕ) → P (48 + n / 10) → All P (two n)
  two_all n tens = All-cons P (48 + n / 10) ((48 + n % 10) ∷ []) tens (All-cons P (48 + n % 10) [] (each (48 + n % 10) (omega arith) (omega arith)) (All-nil P))

  four_all : (n : ℕ) → P (48 + n / 100 / 10) → All P (four n)
  four_all n tens = All-append P (two (n / 100)) (two (n % 100)) (two_all (n / 100) tens) (two_all (n % 100) (each (48 + n % 100 / 10) (omega arith) (omega arith)))

  zone_all : (z : ℤ) → P (48 + unsigned_abs z / 60 / 10) → All P (zone_text z)
  zone_all z tens =
      All-append P (sign_of z ++ two (unsigned_abs z / 60)) (two (unsigned_abs z % 60))
      (All-append P (sign_of z) (two (unsigned_abs z / 60)) (plain_all (sign_of z) (sign_plain z)) (two_all (unsigned_abs z / 60) tens))
      (two_all (unsigned_abs z % 60) (each (48 + unsigned_abs z % 60 / 10) (omega arith) (omega arith)))

  joined : (xs ys zs : List ℕ) → All P xs → list_all is_plain ys ≡ true → All P zs → All P (xs ++ ys ++ zs)
  joined xs ys zs h between k = All-append P (xs ++ ys) zs (All-append P xs ys h (plain_all ys between)) k

  tws_all : (d : MailDate) → P (48 + unsigned_abs d.day / 10) → P (48 + unsigned_abs d.year / 100 / 10) → P (48 + unsigned_abs d.hour / 10) → P (48 + unsigned_abs d.minute / 10) → P (48 + unsigned_abs d.second / 10) →
      P (48 + unsigned_abs d.offset / 60 / 10) → All P (tws_of d)
  unfolding is_plain
  tws_all d day year hour minute second offset =
      joined _ (codes " ") _ (joined _ (codes ":") _ (joined _ (codes ":") _ (joined _ (codes " ") _ (joined _ (codes " ") _ (joined _ (codes " ") _ (joined _ (codes ", ") _
      (plain_all _ (weekday_plain (weekday_on (day_number d)))) refl (two_all (unsigned_abs d.day) day)) refl
      (plain_all _ (month_plain (unsigned_abs d.month)))) refl (four_all (unsigned_abs d.year) year)) refl (two_all (unsigned_abs d.hour) hour)) refl
      (two_all (unsigned_abs d.minute) minute)) refl (two_all (unsigned_abs d.second) second)) refl (zone_all d.offset offset)

-- none of its bytes ends a line
pub no_ends : (d : MailDate) → All (λ b. 31 < b) (tws_of d)
no_ends d = tws_all (λ b. 31 < b) (λ b low high. omega arith) d (omega arith) (omega arith) (omega arith) (omega arith) (omega arith) (omega arith)

-- its characters are its bytes
pub tws_bytes : (d : MailDate) → IsMailDate d → encode_utf8_all (tws_of d) ≡ tws_of d
tws_bytes d valid =
    let month = days_in_month_bounds d.year (unsigned_abs d.month) in
    encodes-IsAscii (tws_of d) (IsAscii-from_all (tws_of d)
    (tws_all (λ b. b < 128) (λ b low high. omega arith) d (omega (arith, ints, valid.exists.2)) (omega (arith, ints, valid.exists.0)) (omega (arith, ints, valid.hour)) (omega (arith, ints, valid.minute))
    (omega (arith, ints, valid.second)) (omega (arith, ints, valid.offset))))
