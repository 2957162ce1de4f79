-- Numbers in words.
use Rattle.mail_dates.specs.declared.time.Time.{Time}
use Rattle.std.specs.Prelude.{ℕ, ◌≤◌, ◌+◌, ◌-◌, ◌*◌, ◌/◌, ◌%◌, ◌==◌, ◌&&◌, nat_le, nat_lt, List, [], ◌∷◌, length, Option, Some, None, if◌then◌else◌, ℤ, pos, neg_ℤ}

-- the number of a digit
abbrev pub digit_of : ℕ → Option ℕ
digit_of b = if nat_le 48 b && nat_le b 57 then Some (b - 48) else None

-- a number with one digit more
abbrev pub with_digit : ℕ → Option ℕ → Option ℕ
with_digit n None = None
with_digit n (Some d) = Some (10 * n + d)

-- the number of digits behind those of a number
unfoldable pub decimal_behind : Option ℕ → List ℕ → Option ℕ
decimal_behind n [] = n
decimal_behind None (b ∷ rest) = None
decimal_behind (Some n) (b ∷ rest) = decimal_behind (with_digit n (digit_of b)) rest

-- the number of a word that has digits alone
abbrev pub decimal : List ℕ → Option ℕ
decimal word = decimal_behind (Some 0) word

-- a number and what stands behind it
pub record Lead : Type 0 where
  pub value : ℕ
  pub rest : List ℕ

-- a digit and what may be a second one
abbrev pub two_digits : ℕ → Option ℕ → ℕ → List ℕ → Lead
two_digits a None b rest = record { value = a; rest = b ∷ rest }
two_digits a (Some d) b rest = record { value = 10 * a + d; rest = rest }

-- a digit, if it is one, and what stands behind it
abbrev pub one_digit : Option ℕ → List ℕ → Option Lead
one_digit None rest = None
one_digit (Some a) [] = Some (record { value = a; rest = [] })
one_digit (Some a) (b ∷ rest) = Some (two_digits a (digit_of b) b rest)

-- the number of one or two digits with which a word begins
abbrev pub short_lead : List ℕ → Option Lead
short_lead [] = None
short_lead (b ∷ rest) = one_digit (digit_of b) rest

-- a number with nothing behind it
abbrev pub whole : Option Lead → Option ℕ
whole None = None
whole (Some lead) = if length lead.rest == 0 then Some lead.value else None

-- a word of one or two digits
abbrev pub short_number : List ℕ → Option ℕ
short_number word = whole (short_lead word)

-- parts of a day
abbrev pub IsTime : Time → Type 0
IsTime t = (t.hour ≤ 23) × (t.minute ≤ 59) × (t.second ≤ 59)

-- second 60 is read as 59
abbrev pub time_within : ℕ → ℕ → ℕ → Option Time
time_within hour minute second =
    if nat_le hour 23 && nat_le minute 59 && nat_le second 60
    then Some (record { hour = hour; minute = minute; second = if second == 60 then 59 else second }) else None

-- a time with a second that was read
abbrev pub time_to_second : ℕ → ℕ → Option ℕ → Option Time
time_to_second hour minute None = None
time_to_second hour minute (Some second) = time_within hour minute second

-- what follows a colon
abbrev pub after_colon : List ℕ → Option (List ℕ)
after_colon [] = None
after_colon (b ∷ rest) = if b == 58 then Some rest else None

-- a time whose second stands behind a colon
abbrev pub second_in : ℕ → ℕ → Option (List ℕ) → Option Time
second_in hour minute None = None
second_in hour minute (Some word) = time_to_second hour minute (short_number word)

-- a time with a minute that was read, and perhaps a second behind it
abbrev pub time_to_minute : ℕ → Option Lead → Option Time
time_to_minute hour None = None
time_to_minute hour (Some lead) =
    if length lead.rest == 0 then time_within hour lead.value 0 else second_in hour lead.value (after_colon lead.rest)

-- a time whose minute stands behind a colon
abbrev pub minute_in : ℕ → Option (List ℕ) → Option Time
minute_in hour None = None
minute_in hour (Some word) = time_to_minute hour (short_lead word)

-- a time with an hour that was read
abbrev pub time_from : Option Lead → Option Time
time_from None = None
time_from (Some lead) = minute_in lead.value (after_colon lead.rest)

-- the time of a word h:mm or h:mm:ss, with one or two digits each
abbrev pub time_in : List ℕ → Option Time
time_in word = time_from (short_lead word)

-- a year of two digits from 1950 to 2049, of three 1900 more, of four from 1900 on
abbrev pub year_by : ℕ → Option ℕ → Option ℕ
year_by len None = None
year_by len (Some n) =
    if len == 2 then Some (if nat_lt n 50 then n + 2000 else n + 1900)
    else (if len == 3 then Some (n + 1900)
    else (if len == 4 && nat_le 1900 n then Some n else None))

-- a year from 1900 to 9999
abbrev pub IsYear : ℕ → Type 0
IsYear n = (1900 ≤ n) × (n ≤ 9999)

-- the year of a header's date
abbrev pub year_in : List ℕ → Option ℕ
year_in word = year_by (length word) (decimal word)

-- the minutes of hhmm
abbrev pub minutes_of : Option ℕ → Option ℕ
minutes_of None = None
minutes_of (Some n) = if nat_le (n / 100) 23 && nat_le (n % 100) 59 then Some (n / 100 * 60 + n % 100) else None

-- minutes ahead or behind, by their sign
abbrev pub signed : ℕ → Option ℕ → Option ℤ
signed sign None = None
signed sign (Some n) = if sign == 43 then Some (pos n) else (if sign == 45 then Some (neg_ℤ (pos n)) else None)

-- the minutes of a zone +hhmm or -hhmm
abbrev pub numeric_zone : List ℕ → Option ℤ
numeric_zone [] = None
numeric_zone (sign ∷ rest) = if length rest == 4 then signed sign (minutes_of (decimal rest)) else None
