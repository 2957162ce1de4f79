-- The functions of formats (mh-format): what each answers.
use Rattle.std.specs.Prelude.{ℕ, ◌==◌, not, Bool, is_none, List, [], length, Option, None, ℤ, pos, ◌+ℤ◌, ◌-ℤ◌, int_lt}
use Rattle.std.specs.Ordering.{int_eq}
use Rattle.std.specs.Str.{encode_utf8_all}
use Rattle.format_compiler.specs.declared.argument.Argument.{Argument}
use Rattle.format_compiler.specs.declared.argument.Argument.TheVariants.{Nothing, Literal, Number, Component}
use Rattle.format_compiler.specs.declared.function.Function.{Function}
use Rattle.format_compiler.specs.declared.function.Function.TheVariants as functions
use Rattle.format_compiler.specs.declared.width.Width.{Width}
use Rattle.mail_dates.specs.declared.mail_date.MailDate.{MailDate}
use Rattle.mail_dates.specs.Clocks.{clock_of}
use Rattle.mail_dates.specs.Reading.{date_in}
use Rattle.mail_dates.specs.Shown.{month_name, tws_of, weekday_name, zone_text}
use Rattle.mail_text.specs.EncodedWords.{decoded}
use Rattle.mail_text.specs.ShownAddress.{shown_address}
use Rattle.format_run.specs.declared.answer.Answer.{Answer}
use Rattle.format_run.specs.declared.answer.Answer.TheVariants as answers
use Rattle.format_run.specs.Viewed.{Viewed}
use Rattle.format_run.specs.Addresses.{addr_in, friendly_in}
use Rattle.format_run.specs.Dates.{date_number, date_text, long_month_name, long_weekday_name, month_of, weekday_of}
use Rattle.format_run.specs.Numbers.{held, quotient, remainder, truth}
use Rattle.format_run.specs.Texts.{begins, leading_number, stands_in, trimmed, unquoted}
use Rattle.format_run.specs.Values.{value_of}

-- the characters of a literal
abbrev pub literal_in : Argument → List ℕ
literal_in Nothing = []
literal_in (Literal text) = text
literal_in (Number n) = []
literal_in (Component name) = []

-- the number of an argument
abbrev pub number_in : Argument → ℤ
number_in Nothing = pos 0
number_in (Literal text) = pos 0
number_in (Number n) = n
number_in (Component name) = pos 0

-- the value of an argument that is a component
abbrev pub value_in : Viewed → Argument → List ℕ
value_in view Nothing = []
value_in view (Literal text) = []
value_in view (Number n) = []
value_in view (Component name) = value_of name view.message

-- the date of an argument that is a component
abbrev pub date_of : Viewed → Argument → Option MailDate
date_of view a = date_in (encode_utf8_all (value_in view a))

-- what a function sees of a format's state: its number, its text, the line's width, and the columns of it that are free
pub record Seen : Type 0 where
  pub number : ℤ
  pub text : List ℕ
  pub width : ℕ
  pub free : ℕ

-- a text's number of characters is 0
abbrev pub is_empty : List ℕ → Bool
is_empty text = length text == 0

-- what a function answers, with this width and argument in this state: a number or a text, or what is to be printed
abbrev pub answer_of : Viewed → Seen → Option Width → Function → Argument → Answer
answer_of view s w functions.Msg a = answers.Number (pos view.number)
answer_of view s w functions.Size a = answers.Number (pos (length view.message))
answer_of view s w functions.Cur a = answers.Number (truth view.current)
answer_of view s w functions.Unseen a = answers.Number (truth view.unseen)
answer_of view s w functions.Width a = answers.Number (pos s.width)
answer_of view s w functions.Charleft a = answers.Number (pos s.free)
answer_of view s w functions.Timenow a = answers.Number view.moment
answer_of view s w functions.Me a = answers.Text view.user
answer_of view s w functions.Num a = answers.Number (number_in a)
answer_of view s w functions.Lit a = answers.Text (literal_in a)
answer_of view s w functions.Eq a = answers.Number (truth (int_eq s.number (number_in a)))
answer_of view s w functions.Ne a = answers.Number (truth (not (int_eq s.number (number_in a))))
answer_of view s w functions.Gt a = answers.Number (truth (int_lt (number_in a) s.number))
answer_of view s w functions.Plus a = answers.Number (held (s.number +ℤ number_in a))
answer_of view s w functions.Divide a = answers.Number (quotient s.number (number_in a))
answer_of view s w functions.Modulo a = answers.Number (remainder s.number (number_in a))
answer_of view s w functions.Match a =
    answers.Number (truth (stands_in (encode_utf8_all (literal_in a)) (encode_utf8_all s.text)))
answer_of view s w functions.Amatch a =
    answers.Number (truth (begins (encode_utf8_all s.text) (encode_utf8_all (literal_in a))))
answer_of view s w functions.Strlen a = answers.Number (pos (length s.text))
answer_of view s w functions.Null a = answers.Number (truth (is_empty s.text))
answer_of view s w functions.Nonnull a = answers.Number (truth (not (is_empty s.text)))
answer_of view s w functions.Zero a = answers.Number (truth (int_eq s.number (pos 0)))
answer_of view s w functions.Nonzero a = answers.Number (truth (not (int_eq s.number (pos 0))))
answer_of view s w functions.Void a = answers.Nothing
answer_of view s w functions.Comp a = answers.Text (value_in view a)
answer_of view s w functions.Compval a = answers.Number (leading_number (value_in view a))
answer_of view s w functions.Trim a = answers.Text (trimmed s.text)
answer_of view s w functions.Unquote a = answers.Text (unquoted s.text)
answer_of view s w functions.Decode a = answers.Text (decoded s.text)
answer_of view s w functions.Putstr a = answers.PrintText None
answer_of view s w functions.Putstrf a = answers.PrintText w
answer_of view s w functions.Putnum a = answers.PrintNumber None
answer_of view s w functions.Putnumf a = answers.PrintNumber w
answer_of view s w functions.Putlit a = answers.PrintAll
answer_of view s w functions.Sec a = answers.Number (date_number (λ d. d.second) (date_of view a))
answer_of view s w functions.Min a = answers.Number (date_number (λ d. d.minute) (date_of view a))
answer_of view s w functions.Hour a = answers.Number (date_number (λ d. d.hour) (date_of view a))
answer_of view s w functions.Mday a = answers.Number (date_number (λ d. d.day) (date_of view a))
answer_of view s w functions.Mon a = answers.Number (date_number (λ d. d.month) (date_of view a))
answer_of view s w functions.Year a = answers.Number (date_number (λ d. d.year) (date_of view a))
answer_of view s w functions.Wday a = answers.Number (date_number (λ d. pos (weekday_of d)) (date_of view a))
answer_of view s w functions.Day a = answers.Text (date_text (λ d. weekday_name (weekday_of d)) (date_of view a))
answer_of view s w functions.Weekday a =
    answers.Text (date_text (λ d. long_weekday_name (weekday_of d)) (date_of view a))
answer_of view s w functions.Month a = answers.Text (date_text (λ d. month_name (month_of d)) (date_of view a))
answer_of view s w functions.Lmonth a = answers.Text (date_text (λ d. long_month_name (month_of d)) (date_of view a))
answer_of view s w functions.Tzone a = answers.Text (date_text (λ d. zone_text d.offset) (date_of view a))
answer_of view s w functions.Clock a = answers.Number (date_number clock_of (date_of view a))
answer_of view s w functions.Rclock a =
    answers.Number (date_number (λ d. held (view.moment -ℤ clock_of d)) (date_of view a))
answer_of view s w functions.Tws a = answers.Text (date_text tws_of (date_of view a))
answer_of view s w functions.Nodate a = answers.Number (truth (is_none (date_of view a)))
answer_of view s w functions.Friendly a = answers.Text (friendly_in (value_in view a))
answer_of view s w functions.Addr a = answers.Text (addr_in (value_in view a))
answer_of view s w functions.Pers a = answers.Text (shown_address (value_in view a)).pers
answer_of view s w functions.Note a = answers.Text (shown_address (value_in view a)).note
answer_of view s w functions.Mbox a = answers.Text (shown_address (value_in view a)).mbox
answer_of view s w functions.Host a = answers.Text (shown_address (value_in view a)).host
