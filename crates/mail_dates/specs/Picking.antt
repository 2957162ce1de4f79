-- Dates by which messages are chosen.
use Rattle.std.specs.Prelude.{◌≡◌, ℕ, ◌+◌, ◌-◌, ◌%◌, ◌==◌, ◌&&◌, not, nat_le, Bool, List, [], ◌∷◌, length, take, drop, slice_index, Option, Some, None, if◌then◌else◌, ℤ, pos, ◌+ℤ◌, ◌-ℤ◌, ◌*ℤ◌, ◌≤ℤ◌, ◌<ℤ◌, codes}
use Rattle.mail_dates.specs.declared.mail_date.MailDate.{MailDate}
use Rattle.mail_dates.specs.declared.time.Time.{Time}
use Rattle.mail_dates.specs.declared.names.Case.TheVariants.{Any}
use Rattle.jiff_core.specs.Calendar.{IsWithin}
use Rattle.mail_dates.specs.Clocks.{clock_at, clock_of, weekday_on}
use Rattle.mail_dates.specs.Numbers.{IsTime, decimal, short_number, time_in, year_by}
use Rattle.mail_dates.specs.Names.{same, month_in, weekday_named}
use Rattle.mail_dates.specs.declared.written.Clock.{Clock}
use Rattle.mail_dates.specs.Reading.{dated, first_by, zone_in}
use Rattle.mh_base.specs.Characters.{is_blank, words}

-- this is the day on which the moment falls, by a clock that is so many minutes ahead
pub record IsToday (moment offset today : ℤ) : Type 0 where
  pub from : (today *ℤ pos 86400) ≤ℤ (moment +ℤ offset *ℤ pos 60)
  pub to : (moment +ℤ offset *ℤ pos 60) <ℤ (today *ℤ pos 86400 +ℤ pos 86400)

-- how many days back the last such weekday before today is
abbrev pub days_back : ℕ → ℕ → ℕ
days_back today weekday = (today + 6 - weekday) % 7 + 1

-- the last such day before today
abbrev pub weekday_before : ℤ → Option ℕ → Option ℤ
weekday_before today None = None
weekday_before today (Some w) = Some (today -ℤ pos (days_back (weekday_on today) w))

-- so many days before today
abbrev pub days_before : ℤ → Option ℕ → Option ℤ
days_before today None = None
days_before today (Some n) = Some (today -ℤ pos n)

-- a minus sign and one to four digits
abbrev pub minus_days : List ℕ → Option ℕ
minus_days [] = None
minus_days (b ∷ rest) = if b == 45 && nat_le 1 (length rest) && nat_le (length rest) 4 then decimal rest else None

-- a day, or another one
abbrev pub day_or : Option ℤ → Option ℤ → Option ℤ
day_or (Some day) other = Some day
day_or None other = other

-- the day that a word names
abbrev pub day_named : ℤ → List ℕ → Option ℤ
day_named today text =
    if same Any text (codes "today") then Some today
    else (if same Any text (codes "yesterday") then Some (today -ℤ pos 1)
    else (if same Any text (codes "tomorrow") then Some (today +ℤ pos 1)
    else day_or (days_before today (minus_days text)) (weekday_before today (weekday_named text))))

-- the first moment of a day
abbrev pub midnight : Time
midnight = record { hour = 0; minute = 0; second = 0 }

-- a year of four digits
abbrev pub long_year : List ℕ → Option ℕ
long_year word = if length word == 4 then year_by 4 (decimal word) else None

-- yyyy-mm-dd
abbrev pub numeric_date : List ℕ → ℤ → Option MailDate
numeric_date text offset =
    if length text == 10 && (slice_index text 4 == 45) && (slice_index text 7 == 45)
    then dated (long_year (take 4 text)) (decimal (take 2 (drop 5 text))) (decimal (drop 8 text)) (Some midnight) offset
    else None

-- blanks stand at neither end
abbrev pub is_trimmed : List ℕ → Bool
is_trimmed text = not (is_blank (slice_index text 0)) && not (is_blank (slice_index text (length text - 1)))

-- parts within their ranges
abbrev pub IsClock : Clock → Type 0
IsClock c = IsTime c.time × IsWithin 1439 c.offset

-- a time and by how many minutes its clock is ahead
abbrev pub with_offset : Option Time → Option ℤ → Option Clock
with_offset None offset = None
with_offset (Some time) None = None
with_offset (Some time) (Some offset) = Some (record { time = time; offset = offset })

-- behind a time nothing, or a zone alone
abbrev pub clock_behind : Option Time → ℤ → List (List ℕ) → Option Clock
clock_behind time offset [] = with_offset time (Some offset)
clock_behind time offset (zone ∷ []) = with_offset time (zone_in zone)
clock_behind time offset (zone ∷ word ∷ words) = None

-- nothing, or a time and what may stand behind it
abbrev pub clock_in : ℤ → List (List ℕ) → Option Clock
clock_in offset [] = Some (record { time = midnight; offset = offset })
clock_in offset (time ∷ words) = clock_behind (time_in time) offset words

-- the date of these parts, by this clock
abbrev pub dated_at : Option ℕ → Option ℕ → Option ℕ → Option Clock → Option MailDate
dated_at year month day None = None
dated_at year month day (Some clock) = dated year month day (Some clock.time) clock.offset

-- a day, a month, a year, and then perhaps a time and a zone
abbrev pub written_by : ℤ → List (List ℕ) → Option MailDate
written_by offset words =
    dated_at (first_by long_year (drop 2 words)) (first_by (month_in Any) (drop 1 words)) (first_by short_number words)
    (clock_in offset (drop 3 words))

-- d mon yyyy, with an optional time and an optional zone behind it
abbrev pub written_date : List ℕ → ℤ → Option MailDate
written_date text offset = if is_trimmed text then written_by offset (words is_blank text) else None

-- the clock of a date, or another one
abbrev pub clock_or : Option MailDate → Option ℤ → Option ℤ
clock_or (Some date) other = Some (clock_of date)
clock_or None other = other

-- the clock of the first moment of a day
abbrev pub midnight_of : Option ℤ → ℤ → Option ℤ
midnight_of None offset = None
midnight_of (Some day) offset = Some (clock_at day (pos 0) offset)

-- the moment that a text names, on this day and by this offset
abbrev pub picked : ℤ → ℤ → List ℕ → Option ℤ
picked today offset text =
    clock_or (numeric_date text offset)
    (clock_or (written_date text offset) (midnight_of (day_named today text) offset))

-- the moment that a text names, or that it names none
abbrev pub PicksDate : ℤ → ℤ → List ℕ → Option ℤ → Type 0
PicksDate moment offset text clock = (today : ℤ) × IsToday moment offset today × (picked today offset text ≡ clock)
