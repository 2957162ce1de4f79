-- Civil parts and moments.
use Rattle.std.specs.Prelude.{ℕ, ◌+◌, ◌%◌, ◌&&◌, nat_le, Bool, ℤ, pos, ◌+ℤ◌, ◌-ℤ◌, ◌*ℤ◌, ◌≤ℤ◌, unsigned_abs}
use Rattle.jiff_core.specs.Calendar.{IsDate, IsBetween, IsWithin, days_in_month, days_from_civil, weekday_number}
use Rattle.mail_dates.specs.declared.mail_date.MailDate.{MailDate}

-- the calendar has this day
abbrev pub day_exists : ℕ → ℕ → ℕ → Bool
day_exists year month day =
    nat_le 1 month && nat_le month 12 && nat_le 1 day && nat_le day (days_in_month (pos year) month)

-- parts within their ranges
pub record IsMailDate (d : MailDate) : Type 0 where
  pub since : pos 1900 ≤ℤ d.year
  pub exists : IsDate d.year d.month d.day
  pub hour : IsBetween (pos 0) (pos 23) d.hour
  pub minute : IsBetween (pos 0) (pos 59) d.minute
  pub second : IsBetween (pos 0) (pos 59) d.second
  pub offset : IsWithin 1439 d.offset

-- the number of the day, from 1970-01-01
abbrev pub day_number : MailDate → ℤ
day_number d = days_from_civil d.year (unsigned_abs d.month) (unsigned_abs d.day)

-- the seconds of a moment: its day's and those of the day, without those by which its clock is ahead
abbrev pub clock_at : ℤ → ℤ → ℤ → ℤ
clock_at day second offset = day *ℤ pos 86400 +ℤ second -ℤ offset *ℤ pos 60

-- the seconds of the day that have passed
abbrev pub second_of : MailDate → ℤ
second_of d = d.hour *ℤ pos 3600 +ℤ d.minute *ℤ pos 60 +ℤ d.second

-- the seconds of a date from 1970-01-01 00:00:00 UTC
abbrev pub clock_of : MailDate → ℤ
clock_of d = clock_at (day_number d) (second_of d) d.offset

-- the day of the week, from 0 for Sunday
abbrev pub weekday_on : ℤ → ℕ
weekday_on day = (weekday_number day + 1) % 7

-- a moment and an offset in minutes within the ranges of a setting
pub record IsSetting (moment offset : ℤ) : Type 0 where
  pub seconds : IsBetween (pos 0) (pos 253402000000) moment
  pub minutes : IsWithin 1439 offset
