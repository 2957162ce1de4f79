-- The parts of a moment are the only ones with its clock.
use Rattle.std.proofs.Common.{◌≡◌, ℕ, zero, suc, ◌+◌, ◌-◌, ◌*◌, ◌/◌, ◌%◌, ◌<◌, ◌≤◌, inl, inr, Bool, true, false, refl, sym, ap, ◌∙◌, subst, arith, ℤ, pos, ◌+ℤ◌, ◌-ℤ◌, ◌*ℤ◌, ◌≤ℤ◌, unsigned_abs}
use Rattle.std.proofs.lemmas.Bool.{cases_lt, cases_order, cond-true, cond-false, lt-ltb, le-ltb}
use Rattle.std.proofs.lemmas.Int.{ints}
use Rattle.jiff_core.specs.Calendar.{day_count, days_from_civil, days_of_months, IsCivilDate}
use Rattle.jiff_core.proofs.CalendarLemmas.{day_count-epoch, day_count-lt_year, day_count-next_year, day_count-last_of_year, day_count-day_of_year, day_of_year_bound, days_of_months_mono, days_of_months_more, days_from_civil-day_count, days_in_year_bounds}
use Rattle.mail_dates.specs.declared.mail_date.MailDate.{MailDate}
use Rattle.mail_dates.specs.Clocks.{IsMailDate, IsSetting, clock_at, clock_of, second_of}
use borrow.Author.Differences.{up, down}
use Rattle.annotation_lines.specs.Moments.{first_from, year_in, month_in, days_before, date_in, date_of_year, date_of_count, date_at}

-- where the test fails before a number and holds of it, that is the first
first_is : (test : ℕ → Bool) (k n v : ℕ) → n ≤ v → v < n + k → ((i : ℕ) → n ≤ i → i < v → test i ≡ false) → test v ≡ true → first_from test k n ≡ v
unfolding first_from
first_is test zero n v low high before here = absurd (omega arith)
first_is test (suc k) n v low high before here =
    elim (cases_order n v) [
      | inl e ↦ cond-true (test n) n (first_from test k (n + 1)) (ap test e ∙ here) ∙ e
      | inr (inl lt) ↦ cond-false (test n) n (first_from test k (n + 1)) (before n (omega arith) lt)
          ∙ first_is test k (n + 1) v (omega arith) (omega arith) (λ i l h. before i (omega arith) h) here
      | inr (inr gt) ↦ absurd (omega arith)
    ]

-- a later year begins later
years_mono : (a b : ℕ) → a ≤ b → b ≤ 9999 → day_count (pos a) 1 1 ≤ day_count (pos b) 1 1
years_mono a b h top =
    elim (cases_order a b) [
      | inl e ↦ rw e (omega arith)
      | inr (inl lt) ↦
          let civil : IsCivilDate (pos a) 1 1 = ((omega (arith, ints), omega (arith, ints)), (omega arith, omega arith), (omega arith, omega arith)) in
          omega (arith, day_count-lt_year (pos a) 1 1 (pos b) 1 1 civil (omega arith) (omega (arith, ints)))
      | inr (inr gt) ↦ absurd (omega arith)
    ]

-- a day lies in the year that begins before it and doesn't end before it
year_is : (y count : ℕ) → 1969 ≤ y → y ≤ 9999 → day_count (pos y) 1 1 ≤ count → count < day_count (pos (y + 1)) 1 1 → year_in count ≡ y
year_is y count low high from to =
    first_is _ 8031 1969 y low (omega arith) (λ i l h. le-ltb count (day_count (pos (i + 1)) 1 1) (omega (arith, years_mono (i + 1) y (omega arith) high)))
    (lt-ltb count (day_count (pos (y + 1)) 1 1) to)

-- and so with its month
month_is : (y m days : ℕ) → 1 ≤ m → m ≤ 12 → days_of_months (pos y) (m - 1) ≤ days → days < days_of_months (pos y) m → month_in y days ≡ m
month_is y m days low high from to =
    first_is _ 12 1 m low (omega arith) (λ i l h. le-ltb days (days_of_months (pos y) i) (omega (arith, days_of_months_mono (pos y) i (m - 1) (omega arith))))
    (lt-ltb days (days_of_months (pos y) m) to)

-- the parts of a day that the calendar has are those that are found by its number and the second of the day
parts_are : (y m n hour minute sec count second : ℕ) (offset : ℤ) → IsCivilDate (pos y) m n → 1969 ≤ y → count ≡ day_count (pos y) m n → second ≡ hour * 3600 + minute * 60 + sec → minute < 60 → sec < 60 →
    record { year = pos y; month = pos m; day = pos n; hour = pos hour; minute = pos minute; second = pos sec; offset = offset } ≡ date_of_count count second offset
parts_are y m n hour minute sec count second offset civil low ec es mb sb =
    let days = count - day_count (pos y) 1 1 in
    let top : y ≤ 9999 = omega (arith, ints, civil.0.1) in
    let first = day_count-day_of_year (pos y) m n civil.2.0 in
    let long = day_of_year_bound (pos y) m n civil in
    let next = day_count-next_year (pos y) (pos (y + 1)) (omega (arith, ints)) (omega (arith, ints)) in
    let month = days_of_months_more (pos y) m civil.1.0 in
    let yi : year_in count ≡ y = year_is y count low top (omega (arith, civil.2.0)) (omega (arith, civil.2.0)) in
    let mi : month_in y days ≡ m = month_is y m days civil.1.0 civil.1.1 (omega (arith, civil.2.0)) (omega (arith, civil.2.0, civil.2.1)) in
    let ed : n ≡ days - days_of_months (pos y) (m - 1) + 1 = omega (arith, civil.2.0) in
    let eh : hour ≡ second / 3600 = omega arith in
    let em : minute ≡ second / 60 % 60 = omega arith in
    let en : sec ≡ second % 60 = omega arith in
    let placed : record { year = pos y; month = pos m; day = pos n; hour = pos hour; minute = pos minute; second = pos sec; offset = offset } ≡ date_in y m days second offset =
    λ i. record { year = pos y; month = pos m; day = pos (ed i); hour = pos (eh i); minute = pos (em i); second = pos (en i); offset = offset } in
    placed ∙ sym (ap (λ k. date_in y k days second offset) mi) ∙ sym (ap (λ k. date_of_year k (days_before count k) second offset) yi)

-- the day before 1970-01-01
last_of_1969 : day_count (pos 1969) 12 31 ≡ 4_371_952
last_of_1969 =
    let next = day_count-next_year (pos 1969) (pos 1970) (omega (arith, ints)) (omega (arith, ints)) in
    omega (arith, day_count-epoch, day_count-last_of_year (pos 1969))

-- the second of a day by its parts
abbrev second_in : ℕ → ℕ → ℕ → ℕ
second_in hour minute sec = hour * 3600 + minute * 60 + sec

-- the number of the day and the second of the day, by the seconds from 1969-12-31 on
counted : (seconds count second : ℕ) (day now offset : ℤ) → up day + 4_371_953 ≡ down day + count → second < 86400 → pos 0 ≤ℤ (now +ℤ offset *ℤ pos 60 +ℤ pos 86400) →
    day *ℤ pos 86400 +ℤ pos second -ℤ offset *ℤ pos 60 ≡ now → seconds ≡ unsigned_abs (now +ℤ offset *ℤ pos 60 +ℤ pos 86400) →
    (4_371_952 ≤ count) × (4_371_952 + seconds / 86400 ≡ count) × (seconds % 86400 ≡ second)
counted seconds count second day now offset e within from clock is =
    let parts : up day * 86400 + second + 86400 ≡ down day * 86400 + seconds = omega (arith, ints) in
    (omega arith, omega arith, omega arith)

-- from that day on a day is of the year 1969 or a later one
since_1969 : (y m n : ℕ) → IsCivilDate (pos y) m n → 4_371_952 ≤ day_count (pos y) m n → 1969 ≤ y
since_1969 y m n civil from =
    elim (cases_lt y 1969) [
      | inl before ↦
          let earlier = day_count-lt_year (pos y) m n (pos 1969) 1 1 civil (omega arith) (omega (arith, ints)) in
          let long = days_in_year_bounds (pos 1969) in
          absurd (omega (arith, last_of_1969, day_count-last_of_year (pos 1969)))
      | inr after ↦ after
    ]

-- parts whose clock is this moment are those of its date
parts_at : (y m n hour minute sec : ℕ) (moment offset : ℤ) → IsCivilDate (pos y) m n → hour < 24 → minute < 60 → sec < 60 → IsSetting moment offset →
    clock_at (days_from_civil (pos y) m n) (pos (second_in hour minute sec)) offset ≡ moment →
    record { year = pos y; month = pos m; day = pos n; hour = pos hour; minute = pos minute; second = pos sec; offset = offset } ≡ date_at moment offset
parts_at y m n hour minute sec moment offset civil hb mb sb setting clock =
    let seconds = unsigned_abs (moment +ℤ offset *ℤ pos 60 +ℤ pos 86400) in
    let by = counted seconds (day_count (pos y) m n) (second_in hour minute sec) (days_from_civil (pos y) m n) moment offset
    (days_from_civil-day_count (pos y) m n) (omega arith) (omega (arith, ints, setting.seconds, setting.minutes)) clock refl in
    parts_are y m n hour minute sec (day_count (pos 1969) 12 31 + seconds / 86400) (seconds % 86400) offset civil (since_1969 y m n civil by.0) (omega (arith, last_of_1969, by.1)) by.2 mb sb

-- the only date with this clock and this offset
pub date_is : (d : MailDate) (moment offset : ℤ) → IsMailDate d → IsSetting moment offset → clock_of d ≡ moment → d.offset ≡ offset → d ≡ date_at moment offset
date_is d moment offset valid setting clock ahead =
    let y = unsigned_abs d.year in
    let m = unsigned_abs d.month in
    let n = unsigned_abs d.day in
    let hour = unsigned_abs d.hour in
    let minute = unsigned_abs d.minute in
    let sec = unsigned_abs d.second in
    let ey : d.year ≡ pos y = omega (arith, ints, valid.since) in
    let em : d.month ≡ pos m = omega (arith, ints, valid.exists.1) in
    let en : d.day ≡ pos n = omega (arith, ints, valid.exists.2) in
    let eh : d.hour ≡ pos hour = omega (arith, ints, valid.hour) in
    let ei : d.minute ≡ pos minute = omega (arith, ints, valid.minute) in
    let es : d.second ≡ pos sec = omega (arith, ints, valid.second) in
    let second : second_of d ≡ pos (second_in hour minute sec) = omega (arith, ints) in
    let civil : IsCivilDate d.year m n = (valid.exists.0, (omega (arith, ints, valid.exists.1), omega (arith, ints, valid.exists.1)), (omega (arith, ints, valid.exists.2), omega (arith, ints, valid.exists.2))) in
    let place : clock_at (days_from_civil (pos y) m n) (pos (second_in hour minute sec)) offset ≡ clock_of d =
    λ k. clock_at (days_from_civil (sym ey k) m n) (sym second k) (sym ahead k) in
    let parts : d ≡ record { year = pos y; month = pos m; day = pos n; hour = pos hour; minute = pos minute; second = pos sec; offset = offset } =
    λ k. record { year = ey k; month = em k; day = en k; hour = eh k; minute = ei k; second = es k; offset = ahead k } in
    parts ∙ parts_at y m n hour minute sec moment offset (subst (λ v. IsCivilDate v m n) ey civil) (omega (arith, ints, valid.hour)) (omega (arith, ints, valid.minute)) (omega (arith, ints, valid.second)) setting (place ∙ clock)
