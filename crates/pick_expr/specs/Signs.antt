-- What the words of a command line are to an expression.
use Rattle.std.specs.Prelude.{ℕ, ◌+◌, ◌-◌, min, ℤ, pos, ◌+ℤ◌, ◌*ℤ◌, List, [], ◌∷◌, length, slice_get, Option, Some, None, codes}
use Rattle.std.specs.Int.{int_div_euclid}
use Rattle.std.specs.Str.{encode_utf8_all}
use Rattle.mail_dates.specs.Picking.{picked}
use Rattle.mh_words.specs.declared.item.Item.{Item}
use Rattle.mh_words.specs.declared.item.Item.TheVariants.{Folder, Message, Switch, Component}
use Rattle.pick_expr.specs.declared.lexeme.Lexeme.TheVariants.{And, Or, Not, Open, Close, Test as TestWord}
use Rattle.pick_expr.specs.declared.one_test.Test.{Test}
use Rattle.pick_expr.specs.declared.one_test.Test.TheVariants.{Field as FieldTest, Search as SearchTest, Before as BeforeTest, After as AfterTest}
use Rattle.pick_expr.specs.declared.sign.Sign.{Sign}
use Rattle.pick_expr.specs.declared.sign.Sign.TheVariants.{Aside, Field, Word, BadPattern, BadDate}
use Rattle.pick_expr.specs.declared.switches.PickSwitch.{PickSwitch}
use Rattle.pick_expr.specs.declared.switches.PickSwitch.TheVariants.{And as AndSwitch, Or as OrSwitch, Not as NotSwitch, Lbrace, Rbrace, From, To, Cc, Subject, Date, Search, Before, After, Datefield, Aside as AsideSwitch}
use Rattle.pick_expr.specs.Fitting.{Shape}
use Rattle.pick_expr.specs.Reading.{pattern_in}
use Rattle.pick_expr.specs.Switches.{switch_at}

-- the days and clocks of dates: today's number, and by how many minutes its clock is ahead
pub record Day : Type 0 where
  pub today : ℤ
  pub offset : ℤ

abbrev pub day_of : ℤ → ℤ → Day
day_of today offset = record { today = today; offset = offset }

-- the number of the day on which a moment falls, by a clock that is so many minutes ahead: whole days since 1970-01-01
abbrev pub today_at : ℤ → ℤ → ℤ
today_at moment offset = int_div_euclid (moment +ℤ offset *ℤ pos 60) (pos 86400)

abbrev pub day_at : ℤ → ℤ → Day
day_at moment offset = day_of (today_at moment offset) offset

abbrev pub pattern_sign : (Shape → Test) → Option Shape → Sign
pattern_sign test None = BadPattern
pattern_sign test (Some p) = Word (TestWord (test p))

abbrev pub date_sign : (ℤ → Test) → Option ℤ → Sign
date_sign test None = BadDate
date_sign test (Some clock) = Word (TestWord (test clock))

-- a test of the fields of a name
abbrev pub field_sign : List ℕ → Option (List ℕ) → Sign
field_sign name None = BadPattern
field_sign name (Some text) = pattern_sign (FieldTest name) (pattern_in (encode_utf8_all text))

abbrev pub search_sign : Option (List ℕ) → Sign
search_sign None = BadPattern
search_sign (Some text) = pattern_sign SearchTest (pattern_in (encode_utf8_all text))

abbrev pub before_sign : Day → List ℕ → Option (List ℕ) → Sign
before_sign day field None = BadDate
before_sign day field (Some text) = date_sign (BeforeTest field) (picked day.today day.offset (encode_utf8_all text))

abbrev pub after_sign : Day → List ℕ → Option (List ℕ) → Sign
after_sign day field None = BadDate
after_sign day field (Some text) = date_sign (AfterTest field) (picked day.today day.offset (encode_utf8_all text))

abbrev pub name_sign : Option (List ℕ) → Sign
name_sign None = Aside
name_sign (Some text) = Field (encode_utf8_all text)

abbrev pub switch_sign : Day → List ℕ → PickSwitch → Option (List ℕ) → Sign
switch_sign day field AndSwitch value = Word And
switch_sign day field OrSwitch value = Word Or
switch_sign day field NotSwitch value = Word Not
switch_sign day field Lbrace value = Word Open
switch_sign day field Rbrace value = Word Close
switch_sign day field From value = field_sign (codes "from") value
switch_sign day field To value = field_sign (codes "to") value
switch_sign day field Cc value = field_sign (codes "cc") value
switch_sign day field Subject value = field_sign (codes "subject") value
switch_sign day field Date value = field_sign (codes "date") value
switch_sign day field Search value = search_sign value
switch_sign day field Before value = before_sign day field value
switch_sign day field After value = after_sign day field value
switch_sign day field Datefield value = name_sign value
switch_sign day field AsideSwitch value = Aside

-- what an item is, where this is the field for dates
abbrev pub sign_of : Day → List ℕ → Item → Sign
sign_of day field (Folder text place) = Aside
sign_of day field (Message text place) = Aside
sign_of day field (Switch index value place) = switch_sign day field (switch_at index) value
sign_of day field (Component name value place) = field_sign (encode_utf8_all name) (Some value)

abbrev pub place_of : Item → ℕ
place_of (Folder text place) = place
place_of (Message text place) = place
place_of (Switch index value place) = place
place_of (Component name value place) = place

-- the place behind a word, and behind so many: it stands still at the last number
abbrev pub place_behind : ℕ → ℕ → ℕ
place_behind count place = min (place + count) 18446744073709551615

-- the place behind an item: a value is a word of its own
abbrev pub behind_item : Item → ℕ
behind_item (Folder text place) = place_behind 1 place
behind_item (Message text place) = place_behind 1 place
behind_item (Switch index None place) = place_behind 1 place
behind_item (Switch index (Some value) place) = place_behind 2 place
behind_item (Component name value place) = place_behind 2 place

abbrev pub behind_some : Option Item → ℕ
behind_some None = 0
behind_some (Some item) = behind_item item

-- the place behind all words of these items, those of messages and folders too
abbrev pub behind_all : List Item → ℕ
behind_all items = behind_some (slice_get items (length items - 1))

-- a word of an expression, at its place
pub record Placed : Type 0 where
  pub place : ℕ
  pub sign : Sign

abbrev pub with_sign : ℕ → Sign → List ℕ → (List ℕ → List Placed) → List Placed
with_sign place Aside field rest = rest field
with_sign place (Field name) field rest = rest name
with_sign place (Word word) field rest = record { place = place; sign = Word word } ∷ rest field
with_sign place BadPattern field rest = record { place = place; sign = BadPattern } ∷ rest field
with_sign place BadDate field rest = record { place = place; sign = BadDate } ∷ rest field

-- the words of the expression among these items, where this is the field for dates
abbrev pub signs_in : Day → List Item → List ℕ → List Placed
signs_in day [] field = []
signs_in day (item ∷ items) field = with_sign (place_of item) (sign_of day field item) field (signs_in day items)
