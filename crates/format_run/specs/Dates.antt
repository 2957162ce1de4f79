-- The parts of dates.
use Rattle.std.specs.Prelude.{ℕ, ◌==◌, List, [], Option, Some, None, ℤ, pos, unsigned_abs, codes, if◌then◌else◌}
use Rattle.mail_dates.specs.declared.mail_date.MailDate.{MailDate}
use Rattle.mail_dates.specs.Clocks.{day_number, weekday_on}

-- a number of a date, and 0 where there is none
abbrev pub date_number : (MailDate → ℤ) → Option MailDate → ℤ
date_number number None = pos 0
date_number number (Some date) = number date

-- a text of a date, and nothing where there is none
abbrev pub date_text : (MailDate → List ℕ) → Option MailDate → List ℕ
date_text text None = []
date_text text (Some date) = text date

abbrev pub weekday_of : MailDate → ℕ
weekday_of date = weekday_on (day_number date)

abbrev pub month_of : MailDate → ℕ
month_of date = unsigned_abs date.month

-- the English name of a day, from Sunday on
abbrev pub long_weekday_name : ℕ → List ℕ
long_weekday_name w =
    if w == 0 then codes "Sunday" else (if w == 1 then codes "Monday" else (if w == 2 then codes "Tuesday"
    else (if w == 3 then codes "Wednesday" else (if w == 4 then codes "Thursday" else (if w == 5 then codes "Friday"
    else codes "Saturday")))))

-- the English name of a month
abbrev pub long_month_name : ℕ → List ℕ
long_month_name m =
    if m == 1 then codes "January" else (if m == 2 then codes "February" else (if m == 3 then codes "March"
    else (if m == 4 then codes "April" else (if m == 5 then codes "May" else (if m == 6 then codes "June"
    else (if m == 7 then codes "July" else (if m == 8 then codes "August" else (if m == 9 then codes "September"
    else (if m == 10 then codes "October" else (if m == 11 then codes "November" else codes "December"))))))))))
