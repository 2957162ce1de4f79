-- A date as it is shown.
use Rattle.std.specs.Prelude.{ℕ, ◌+◌, ◌/◌, ◌%◌, ◌==◌, List, [], ◌∷◌, ◌++◌, if◌then◌else◌, ℤ, pos, negsuc, unsigned_abs, codes}
use Rattle.mail_dates.specs.declared.mail_date.MailDate.{MailDate}
use Rattle.mail_dates.specs.Clocks.{day_number, weekday_on}

-- the first three letters of a day's name, from Sunday on
abbrev pub weekday_name : ℕ → List ℕ
weekday_name w =
    if w == 0 then codes "Sun" else (if w == 1 then codes "Mon" else (if w == 2 then codes "Tue"
    else (if w == 3 then codes "Wed" else (if w == 4 then codes "Thu" else (if w == 5 then codes "Fri"
    else codes "Sat")))))

-- the first three letters of a month's name
abbrev pub month_name : ℕ → List ℕ
month_name m =
    if m == 1 then codes "Jan" else (if m == 2 then codes "Feb" else (if m == 3 then codes "Mar"
    else (if m == 4 then codes "Apr" else (if m == 5 then codes "May" else (if m == 6 then codes "Jun"
    else (if m == 7 then codes "Jul" else (if m == 8 then codes "Aug" else (if m == 9 then codes "Sep"
    else (if m == 10 then codes "Oct" else (if m == 11 then codes "Nov" else codes "Dec"))))))))))

-- two digits of a number below 100
abbrev pub two : ℕ → List ℕ
two n = (48 + n / 10) ∷ (48 + n % 10) ∷ []

-- four digits of a number below 10,000
abbrev pub four : ℕ → List ℕ
four n = two (n / 100) ++ two (n % 100)

-- plus where the clock isn't behind
abbrev pub sign_of : ℤ → List ℕ
sign_of (pos n) = codes "+"
sign_of (negsuc n) = codes "-"

-- hours and minutes with their sign
abbrev pub zone_text : ℤ → List ℕ
zone_text offset = sign_of offset ++ two (unsigned_abs offset / 60) ++ two (unsigned_abs offset % 60)

-- as in `Tue, 02 Jun 2026 10:00:00 +0000`
abbrev pub tws_of : MailDate → List ℕ
tws_of d =
    weekday_name (weekday_on (day_number d)) ++ codes ", " ++ two (unsigned_abs d.day) ++ codes " "
    ++ month_name (unsigned_abs d.month) ++ codes " "
    ++ four (unsigned_abs d.year) ++ codes " " ++ two (unsigned_abs d.hour) ++ codes ":" ++ two (unsigned_abs d.minute)
    ++ codes ":"
    ++ two (unsigned_abs d.second) ++ codes " " ++ zone_text d.offset
