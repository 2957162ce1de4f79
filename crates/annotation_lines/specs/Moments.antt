-- The civil parts of a moment, by the days of years and months.
use Rattle.std.specs.Prelude.{ℕ, zero, suc, ◌+◌, ◌-◌, ◌/◌, ◌%◌, nat_lt, Bool, if◌then◌else◌, ℤ, pos, ◌+ℤ◌, ◌*ℤ◌, unsigned_abs}
use Rattle.jiff_core.specs.Calendar.{day_count, days_of_months}
use Rattle.mail_dates.specs.declared.mail_date.MailDate.{MailDate}

-- the first number that the test holds of, from this one on, of at most so many; else the one behind them
unfoldable pub first_from : (ℕ → Bool) → ℕ → ℕ → ℕ
first_from test zero n = n
first_from test (suc more) n = if test n then n else first_from test more (n + 1)

-- The days between 1 January of the year -10000 and the day on which these seconds fall. They are counted from
-- 1969-12-31 00:00:00, by the clock.
abbrev pub count_in : ℕ → ℕ
count_in seconds = day_count (pos 1969) 12 31 + seconds / 86400

-- the year, from 1969 to 9999, whose days come to more than so many
abbrev pub year_in : ℕ → ℕ
year_in count = first_from (λ y. nat_lt count (day_count (pos (y + 1)) 1 1)) 8031 1969

-- the days of this year before it
abbrev pub days_before : ℕ → ℕ → ℕ
days_before count year = count - day_count (pos year) 1 1

-- the month whose days come to more than so many
abbrev pub month_in : ℕ → ℕ → ℕ
month_in year days = first_from (λ m. nat_lt days (days_of_months (pos year) m)) 12 1

-- the date of the day in this month, and of a second of the day
abbrev pub date_in : ℕ → ℕ → ℕ → ℕ → ℤ → MailDate
date_in year month days second offset = record {
  year = pos year;
  month = pos month;
  day = pos (days - days_of_months (pos year) (month - 1) + 1);
  hour = pos (second / 3600);
  minute = pos (second / 60 % 60);
  second = pos (second % 60);
  offset = offset;
}

abbrev pub date_of_year : ℕ → ℕ → ℕ → ℤ → MailDate
date_of_year year days second offset = date_in year (month_in year days) days second offset

abbrev pub date_of_count : ℕ → ℕ → ℤ → MailDate
date_of_count count second offset = date_of_year (year_in count) (days_before count (year_in count)) second offset

abbrev pub date_of_seconds : ℕ → ℤ → MailDate
date_of_seconds seconds offset = date_of_count (count_in seconds) (seconds % 86400) offset

-- the date of a moment, in seconds from 1970-01-01 00:00:00 UTC, by a clock that is so many minutes ahead of UTC
abbrev pub date_at : ℤ → ℤ → MailDate
date_at moment offset = date_of_seconds (unsigned_abs (moment +ℤ offset *ℤ pos 60 +ℤ pos 86400)) offset
