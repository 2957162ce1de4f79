-- English names of days and months, and names of zones.
use Rattle.std.specs.Prelude.{ℕ, ◌&&◌, ◌||◌, nat_le, Bool, List, take, Option, Some, None, if◌then◌else◌, ℤ, pos, neg_ℤ, codes, bytes_eq}
use Rattle.std.specs.List.{list_all}
use Rattle.std.specs.Str.{str_eq_ignore_ascii_case}
use Rattle.mail_dates.specs.declared.names.Case.{Case}
use Rattle.mail_dates.specs.declared.names.Case.TheVariants.{AsWritten, Any}

-- two texts are the same, with their case or without it
abbrev pub same : Case → List ℕ → List ℕ → Bool
same AsWritten a b = bytes_eq a b
same Any a b = str_eq_ignore_ascii_case a b

-- a letter of ASCII
abbrev pub is_letter : ℕ → Bool
is_letter b = (nat_le 65 b && nat_le b 90) || (nat_le 97 b && nat_le b 122)

-- the first three letters of a day's name
abbrev pub begins_weekday : List ℕ → Bool
begins_weekday three =
    bytes_eq three (codes "Sun") || bytes_eq three (codes "Mon") || bytes_eq three (codes "Tue")
    || bytes_eq three (codes "Wed")
    || bytes_eq three (codes "Thu") || bytes_eq three (codes "Fri") || bytes_eq three (codes "Sat")

-- three or more letters that begin as a day's name does
abbrev pub is_weekday : List ℕ → Bool
is_weekday word = list_all is_letter word && begins_weekday (take 3 word)

-- a name, or its first three letters
abbrev pub is_named : Case → List ℕ → List ℕ → Bool
is_named case name word = same case word name || same case word (take 3 name)

-- the months of the first half of a year
abbrev pub early_month : Case → List ℕ → Option ℕ
early_month case word =
    if is_named case (codes "January") word then Some 1
    else (if is_named case (codes "February") word then Some 2
    else (if is_named case (codes "March") word then Some 3
    else (if is_named case (codes "April") word then Some 4
    else (if is_named case (codes "May") word then Some 5
    else (if is_named case (codes "June") word then Some 6 else None)))))

-- the months of the second half
abbrev pub late_month : Case → List ℕ → Option ℕ
late_month case word =
    if is_named case (codes "July") word then Some 7
    else (if is_named case (codes "August") word then Some 8
    else (if is_named case (codes "September") word then Some 9
    else (if is_named case (codes "October") word then Some 10
    else (if is_named case (codes "November") word then Some 11
    else (if is_named case (codes "December") word then Some 12 else None)))))

-- a month, or another one
abbrev pub month_or : Option ℕ → Option ℕ → Option ℕ
month_or None other = other
month_or (Some month) other = Some month

-- the month that a word names, by its three letters or its whole name
abbrev pub month_in : Case → List ℕ → Option ℕ
month_in case word = month_or (early_month case word) (late_month case word)

-- the minutes of a zone that has a name
abbrev pub named_zone : List ℕ → Option ℤ
named_zone word =
    if same Any word (codes "UT") || same Any word (codes "GMT") then Some (pos 0)
    else (if same Any word (codes "EDT") then Some (neg_ℤ (pos 240))
    else (if same Any word (codes "EST") || same Any word (codes "CDT") then Some (neg_ℤ (pos 300))
    else (if same Any word (codes "CST") || same Any word (codes "MDT") then Some (neg_ℤ (pos 360))
    else (if same Any word (codes "MST") || same Any word (codes "PDT") then Some (neg_ℤ (pos 420))
    else (if same Any word (codes "PST") then Some (neg_ℤ (pos 480)) else None)))))

-- the day of the week of a whole name, without its case, from 0 for Sunday
abbrev pub weekday_named : List ℕ → Option ℕ
weekday_named word =
    if same Any word (codes "sunday") then Some 0
    else (if same Any word (codes "monday") then Some 1
    else (if same Any word (codes "tuesday") then Some 2
    else (if same Any word (codes "wednesday") then Some 3
    else (if same Any word (codes "thursday") then Some 4
    else (if same Any word (codes "friday") then Some 5
    else (if same Any word (codes "saturday") then Some 6 else None))))))
