-- Of which messages an expression holds.
use Rattle.std.specs.Prelude.{ℕ, ◌==◌, ◌&&◌, ◌⊎◌, IsTrue, List, [], ◌∷◌, ◌++◌, slice_index, Option, Some, None, codes, if◌then◌else◌, ℤ, ◌<ℤ◌}
use Rattle.mail_dates.specs.declared.mail_date.MailDate.{MailDate}
use Rattle.mail_dates.specs.Clocks.{clock_of}
use Rattle.mail_dates.specs.Reading.{date_in}
use Rattle.mail_headers.specs.Fields.{FieldText, fields_of, first_value, same_name}
use Rattle.mail_headers.specs.Message.{body_of}
use Rattle.mail_headers.specs.Unfolding.{unfolded}
use Rattle.pick_expr.specs.declared.one_test.Test.{Test}
use Rattle.pick_expr.specs.declared.one_test.Test.TheVariants.{Field, Search, Before, After}
use Rattle.pick_expr.specs.Fitting.{Matches}
use Rattle.pick_expr.specs.Grammar.{Tree, Every, Leaf, Negation, Both, Either}

-- the fact holds of some of these
abbrev pub SomeOf : {X : Type 0} → (X → Type 0) → List X → Type 0
SomeOf P [] = ⊥
SomeOf P (x ∷ xs) = P x ⊎ SomeOf P xs

-- a byte before the lines that follow
abbrev pub with_byte : ℕ → List (List ℕ) → List (List ℕ)
with_byte b [] = (b ∷ []) ∷ []
with_byte b (line ∷ lines) = (b ∷ line) ∷ lines

-- the lines of a body without their ends: 10 is a line feed, and 13 a carriage return, which belongs to a line's end
-- before it
unfoldable pub lines_of : List ℕ → List (List ℕ)
lines_of [] = []
lines_of (b ∷ bytes) = if b == 10 then [] ∷ lines_of bytes else (if b == 13 && slice_index bytes 0 == 10
    then lines_of bytes else with_byte b (lines_of bytes))

-- a field as one line
abbrev pub field_line : FieldText → List ℕ
field_line f = f.name ++ codes ": " ++ unfolded f.value

-- the clock of the date that a value is has this property
abbrev pub OfDate : (ℤ → Type 0) → Option MailDate → Type 0
OfDate P None = ⊥
OfDate P (Some date) = P (clock_of date)

abbrev pub date_of : Option (List ℕ) → Option MailDate
date_of None = None
date_of (Some value) = date_in (unfolded value)

-- the test holds of the message
abbrev pub TestHolds : Test → List ℕ → Type 0
TestHolds (Field name pattern) message = SomeOf (λ f. IsTrue (same_name f.name name)
    × Matches pattern (unfolded f.value)) (fields_of message)
TestHolds (Search pattern) message = SomeOf (λ f. Matches pattern (field_line f)) (fields_of message)
    ⊎ SomeOf (Matches pattern) (lines_of (body_of message))
TestHolds (Before field clock) message = OfDate (λ c. c <ℤ clock) (date_of (first_value field (fields_of message)))
TestHolds (After field clock) message = OfDate (λ c. clock <ℤ c) (date_of (first_value field (fields_of message)))

-- the expression holds of the message
abbrev pub Holds : Tree → List ℕ → Type 0
Holds Every message = Unit {0}
Holds (Leaf test) message = TestHolds test message
Holds (Negation e) message = ¬ (Holds e message)
Holds (Both e f) message = Holds e message × Holds f message
Holds (Either e f) message = Holds e message ⊎ Holds f message
