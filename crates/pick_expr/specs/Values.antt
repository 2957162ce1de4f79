-- What tests and words come to, as truth values.
use Rattle.std.specs.Prelude.{ℕ, ◌&&◌, ◌||◌, Bool, true, false, not, List, [], ◌∷◌, Option, Some, None, if◌then◌else◌, ℤ, int_lt}
use Rattle.std.specs.List.{list_any}
use Rattle.mail_dates.specs.declared.mail_date.MailDate.{MailDate}
use Rattle.mail_dates.specs.Clocks.{clock_of}
use Rattle.mail_headers.specs.Fields.{FieldText, fields_of, first_value, same_name}
use Rattle.mail_headers.specs.Message.{body_of}
use Rattle.mail_headers.specs.Unfolding.{unfolded}
use Rattle.pick_expr.specs.declared.lexeme.Lexeme.{Lexeme}
use Rattle.pick_expr.specs.declared.lexeme.Lexeme.TheVariants.{And, Or, Not, Open, Close, Test as TestWord}
use Rattle.pick_expr.specs.declared.one_test.Test.{Test}
use Rattle.pick_expr.specs.declared.one_test.Test.TheVariants.{Field, Search, Before, After}
use Rattle.pick_expr.specs.declared.frame.Frame.{Frame}
use Rattle.pick_expr.specs.Finishing.{is_match}
use Rattle.pick_expr.specs.Fitting.{Shape}
use Rattle.pick_expr.specs.Truth.{date_of, field_line, lines_of}

abbrev pub fields_match : List ℕ → Shape → List FieldText → Bool
fields_match name pattern fields = list_any (λ f. same_name f.name name && is_match pattern (unfolded f.value)) fields

abbrev pub some_line : Shape → List FieldText → Bool
some_line pattern fields = list_any (λ f. is_match pattern (field_line f)) fields

abbrev pub clock_of_date : Option MailDate → Option ℤ
clock_of_date None = None
clock_of_date (Some date) = Some (clock_of date)

abbrev pub is_before : ℤ → Option ℤ → Bool
is_before clock None = false
is_before clock (Some found) = int_lt found clock

abbrev pub is_after : ℤ → Option ℤ → Bool
is_after clock None = false
is_after clock (Some found) = int_lt clock found

abbrev pub test_value : Test → List ℕ → Bool
test_value (Field name pattern) message = fields_match name pattern (fields_of message)
test_value (Search pattern) message = some_line pattern (fields_of message)
    || list_any (is_match pattern) (lines_of (body_of message))
test_value (Before field clock) message =
    is_before clock (clock_of_date (date_of (first_value field (fields_of message))))
test_value (After field clock) message =
    is_after clock (clock_of_date (date_of (first_value field (fields_of message))))

-- whether an alternative before holds, whether what is joined so far holds, and whether the operand to come is negated
abbrev pub fresh : Frame
fresh = record { any = false; all = true; negated = false }

abbrev pub absorbed : Bool → Frame → Frame
absorbed value f = record { any = f.any; all = f.all && (if f.negated then not value else value); negated = false }

abbrev pub next_choice : Frame → Frame
next_choice f = record { any = f.any || f.all; all = true; negated = f.negated }

-- what words come to, in these braces and those around them
abbrev pub value_of : List ℕ → List Lexeme → Frame → List Frame → Bool
value_of message [] f around = f.any || f.all
value_of message (And ∷ words) f around = value_of message words f around
value_of message (Or ∷ words) f around = value_of message words (next_choice f) around
value_of message (Not ∷ words) f around = value_of message words (record f { negated = not f.negated }) around
value_of message (Open ∷ words) f around = value_of message words fresh (f ∷ around)
value_of message (Close ∷ words) f [] = value_of message words f []
value_of message (Close ∷ words) f (g ∷ around) = value_of message words (absorbed (f.any || f.all) g) around
value_of message (TestWord t ∷ words) f around = value_of message words (absorbed (test_value t message) f) around
