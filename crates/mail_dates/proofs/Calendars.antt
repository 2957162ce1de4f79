-- Days and their numbers.
use Rattle.std.proofs.Common.{◌≡◌, ℕ, ◌/◌, ◌%◌, ℤ, pos, negsuc, ◌+ℤ◌, ◌-ℤ◌, ◌*ℤ◌, ◌≤ℤ◌, arith}
use Rattle.std.proofs.lemmas.Int.{ints, by_lt_z}
use Rattle.jiff_core.specs.declared.civil.date.Date.{Date}
use Rattle.jiff_core.specs.Date.{epoch_day, IsYmd}
use Rattle.jiff_core.specs.Calendar.{days_from_civil}
use Rattle.jiff_core.proofs.CalendarLemmas.{day_count-epoch, days_from_civil-day_count, day_count-lt_year, day_count-next_year, days_in_year_bounds}
use Rattle.jiff_core.proofs.DateLemmas.{civil}

-- the day before 1970-01-01 is no day of a year before 1969
pub since_1900 : (d : Date) → negsuc 0 ≤ℤ epoch_day d → pos 1900 ≤ℤ d.year
since_1900 d from =
    by_lt_z d.year (pos 1969)
    (λ before.
    let earlier = day_count-lt_year d.year d.month d.day (pos 1969) 1 1 (civil d) (omega arith) before in
    let next = day_count-next_year (pos 1969) (pos 1970) (omega (arith, ints)) (omega (arith, ints)) in
    let long = days_in_year_bounds (pos 1969) in
    absurd (omega (arith, ints, earlier, next, long.1, day_count-epoch, from, days_from_civil-day_count d.year d.month d.day)))
    (λ after. omega (arith, ints, after))

at_epoch : days_from_civil (pos 1970) 1 1 ≡ pos 0
at_epoch = omega (arith, ints, days_from_civil-day_count (pos 1970) 1 1, day_count-epoch)

pub number_of_epoch : (d : Date) → IsYmd (pos 1970) (pos 1) (pos 1) d → epoch_day d ≡ pos 0
number_of_epoch d is =
    let month : d.month ≡ 1 = omega (arith, ints, is.1) in
    let day : d.day ≡ 1 = omega (arith, ints, is.2) in
    rw (is.0, month, day) at_epoch

-- the clock of a moment by its shifted seconds
pub clock_of_shifted : (seconds : ℕ) (day second now offset : ℤ) → day ≡ pos (seconds / 86400) -ℤ pos 1 → second ≡ pos (seconds % 86400) → pos seconds ≡ now +ℤ offset *ℤ pos 60 +ℤ pos 86400 →
    day *ℤ pos 86400 +ℤ second -ℤ offset *ℤ pos 60 ≡ now
clock_of_shifted seconds day second now offset ed es is = omega (arith, ints, ed, es, is)
