-- By what messages are put in order.
use Rattle.std.specs.Prelude.{ℕ, zero, suc, Bool, true, false, List, [], length, codes, ℤ, Option, None, Some, if◌then◌else◌}
use Rattle.mail_dates.specs.Clocks.{clock_of}
use Rattle.mail_dates.specs.Reading.{date_in}
use Rattle.mail_dates.specs.declared.mail_date.MailDate.{MailDate}
use Rattle.mail_headers.specs.Fields.{fields_of, first_value, same_name}
use Rattle.mail_headers.specs.Unfolding.{unfolded}
use Rattle.message_order.specs.Texts.{begins_reply, behind_mark, key_of}

-- the moment of a date, in seconds from 1970-01-01 00:00:00 UTC
abbrev pub clock_of_date : Option MailDate → Option ℤ
clock_of_date None = None
clock_of_date (Some date) = Some (clock_of date)

-- that of the date in a field with this value
abbrev pub date_by : Option (List ℕ) → Option ℤ
date_by None = None
date_by (Some value) = clock_of_date (date_in (unfolded value))

-- the moment of the date in the message's first field of this name; none where there is no such field, or no date can
-- be read in it
unfoldable pub date_key : List ℕ → List ℕ → Option ℤ
date_key field message = date_by (first_value field (fields_of message))

-- a text without the marks of replies at its front, of which there are at most so many
abbrev pub behind_up_to : ℕ → List ℕ → List ℕ
behind_up_to zero text = text
behind_up_to (suc n) text = if begins_reply text then behind_up_to n (behind_mark text) else text

-- a text without the marks of replies at its front
unfoldable pub behind_replies : List ℕ → List ℕ
behind_replies text = behind_up_to (length text) text

-- what is compared of the unfolded text of a subject, or of another field
abbrev pub key_by : Bool → List ℕ → List ℕ
key_by true text = key_of (behind_replies text)
key_by false text = key_of text

-- of a field with this value; an empty text where there is none
abbrev pub text_by : Bool → Option (List ℕ) → List ℕ
text_by subject None = []
text_by subject (Some value) = key_by subject (unfolded value)

-- what is compared of the message's first field of this name
unfoldable pub text_key : List ℕ → List ℕ → List ℕ
text_key field message = text_by (same_name field (codes "subject")) (first_value field (fields_of message))
