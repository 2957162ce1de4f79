-- The parts of an address.
use Rattle.std.specs.Prelude.{ℕ, ◌-◌, ◌==◌, ◌&&◌, ◌||◌, not, Bool, List, [], length, take, drop, map, filter, if◌then◌else◌}
use Rattle.std.specs.List.{prefix_len, suffix_len, before_first, after_first, before_last, after_last, list_any}
use Rattle.mail_text.specs.declared.marks.Mark.{Mark}
use Rattle.mail_text.specs.Marks.{marks, is_outside, is_in_quotes, is_in_comment, is_in_one_comment}
use Rattle.mh_base.specs.Characters.{is_blank}

-- a comma that ends an address
abbrev pub is_comma : Mark → Bool
is_comma m = is_outside m.place && m.c == 44

-- the angle bracket before an address
abbrev pub is_bracket : Mark → Bool
is_bracket m = is_outside m.place && m.c == 60

-- the parenthesis that begins a comment
abbrev pub opens_comment : Mark → Bool
opens_comment m = is_outside m.place && m.c == 40

-- the parenthesis that ends a comment which stands in no other
abbrev pub closes_comment : Mark → Bool
closes_comment m = is_in_one_comment m.place && m.c == 41

-- a character of a comment, its parentheses included
abbrev pub is_of_comment : Mark → Bool
is_of_comment m = is_in_comment m.place || opens_comment m

-- a quote mark
abbrev pub is_quote : Mark → Bool
is_quote m = (is_outside m.place || is_in_quotes m.place) && m.c == 34

-- without the blanks at its ends
abbrev pub trimmed : List ℕ → List ℕ
trimmed text = let front = drop (prefix_len is_blank text) text in take (length front - suffix_len is_blank front) front

-- a character of a name: of no comment, and no quote mark
abbrev pub is_of_name : Mark → Bool
is_of_name m = not (is_of_comment m || is_quote m)

-- a character of no comment
abbrev pub is_plain : Mark → Bool
is_plain m = not (is_of_comment m)

-- the angle bracket behind an address
abbrev pub closes_bracket : Mark → Bool
closes_bracket m = m.c == 62

abbrev pub characters_in : List Mark → List ℕ
characters_in ms = map (λ m. m.c) ms

-- the first address of a value
abbrev pub first_address : List ℕ → List Mark
first_address value = before_first is_comma (marks value)

-- the inside of the first comment, with the comments in it
abbrev pub comment_in : List Mark → List Mark
comment_in ms = before_first closes_comment (after_first opens_comment ms)

-- its text
abbrev pub note_of : List Mark → List ℕ
note_of ms = trimmed (characters_in (comment_in ms))

-- what stands before the angle bracket, without comments and quote marks; nothing where there is no bracket
abbrev pub pers_of : List Mark → List ℕ
pers_of ms =
    if list_any is_bracket ms then trimmed (characters_in (filter is_of_name (before_first is_bracket ms))) else []

-- what stands between the angle bracket and the next that closes it
abbrev pub in_brackets : List Mark → List Mark
in_brackets ms = before_first closes_bracket (after_first is_bracket ms)

-- the address itself: what stands in brackets, or where there are none, all without comments
abbrev pub addr_of : List Mark → List ℕ
addr_of ms =
    if list_any is_bracket ms then characters_in (in_brackets ms) else trimmed (characters_in (filter is_plain ms))

abbrev pub is_at : ℕ → Bool
is_at c = c == 64

-- what stands before the last @, or all where there is none
abbrev pub mbox_in : List ℕ → List ℕ
mbox_in addr = if list_any is_at addr then before_last is_at addr else addr

-- what stands behind the last @, or nothing where there is none
abbrev pub host_in : List ℕ → List ℕ
host_in addr = if list_any is_at addr then after_last is_at addr else []
