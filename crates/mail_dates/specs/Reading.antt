-- The date of a header's field (RFC 5322, section 3.3).
use Rattle.std.specs.Prelude.{ℕ, List, [], ◌∷◌, drop, Option, Some, None, if◌then◌else◌, ℤ, pos}
use Rattle.mail_dates.specs.declared.mail_date.MailDate.{MailDate}
use Rattle.mail_dates.specs.declared.names.Case.TheVariants.{AsWritten}
use Rattle.mail_dates.specs.declared.time.Time.{Time}
use Rattle.mail_dates.specs.Clocks.{day_exists}
use Rattle.mail_dates.specs.Numbers.{short_number, year_in, time_in, numeric_zone}
use Rattle.mail_dates.specs.Names.{is_weekday, month_in, named_zone}
use Rattle.mail_dates.specs.Words.{outside, is_separator}
use Rattle.mh_base.specs.Characters.{words}

-- a zone, or another one
abbrev pub zone_or : Option ℤ → Option ℤ → Option ℤ
zone_or (Some minutes) other = Some minutes
zone_or None other = other

-- a zone, in digits or by its name
abbrev pub zone_in : List ℕ → Option ℤ
zone_in word = zone_or (numeric_zone word) (named_zone word)

-- the minutes of a zone; without one, none
abbrev pub or_utc : Option ℤ → ℤ
or_utc None = pos 0
or_utc (Some minutes) = minutes

-- what the first word is, if there is one
abbrev pub first_by : {A : Type 0} → (List ℕ → Option A) → List (List ℕ) → Option A
first_by f [] = None
first_by f (word ∷ words) = f word

-- the date of these parts, where all are there and the day exists
abbrev pub dated : Option ℕ → Option ℕ → Option ℕ → Option Time → ℤ → Option MailDate
dated (Some year) (Some month) (Some day) (Some time) offset =
    if day_exists year month day
    then Some
    (record {
      year = pos year;
      month = pos month;
      day = pos day;
      hour = pos time.hour;
      minute = pos time.minute;
      second = pos time.second;
      offset = offset;
    })
    else None
dated None month day time offset = None
dated (Some year) None day time offset = None
dated (Some year) (Some month) None time offset = None
dated (Some year) (Some month) (Some day) None offset = None

-- a day, a month, a year, a time, and perhaps a zone; another word in its place, or none, is +0000
abbrev pub date_from : List (List ℕ) → Option MailDate
date_from words =
    dated (first_by year_in (drop 2 words)) (first_by (month_in AsWritten) (drop 1 words)) (first_by short_number words)
    (first_by time_in (drop 3 words))
    (or_utc (first_by zone_in (drop 4 words)))

-- the words behind a weekday, if they begin with one
abbrev pub behind_weekday : List (List ℕ) → List (List ℕ)
behind_weekday [] = []
behind_weekday (word ∷ words) = if is_weekday word then words else word ∷ words

-- the date that a text is
unfoldable pub date_in : List ℕ → Option MailDate
date_in text = date_from (behind_weekday (words is_separator (outside 0 text)))
