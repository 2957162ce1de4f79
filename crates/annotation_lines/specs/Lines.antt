-- The lines that annotate a message.
use Rattle.std.specs.Prelude.{ℕ, ◌==◌, ◌||◌, not, Bool, false, List, [], ◌∷◌, ◌++◌, Option, None, Some, codes}
use Rattle.std.specs.List.{list_all}
use Rattle.mail_headers.specs.Lines.{is_name_byte}
use Rattle.mail_dates.specs.Shown.{tws_of}
use Rattle.mail_dates.specs.declared.mail_date.MailDate.{MailDate}

-- a field's name, a colon, a space, the text and a line feed
abbrev pub line_of : List ℕ → List ℕ → List ℕ
line_of component text = component ++ codes ": " ++ text ++ 10 ∷ []

-- such a line where there is a text
abbrev pub text_line : List ℕ → Option (List ℕ) → List ℕ
text_line component None = []
text_line component (Some text) = line_of component text

-- such a line with the date, where there is one
abbrev pub date_line : List ℕ → Option MailDate → List ℕ
date_line component None = []
date_line component (Some date) = line_of component (tws_of date)

-- the line with the date and the one with the text
abbrev pub annotation_lines : List ℕ → Option MailDate → Option (List ℕ) → List ℕ
annotation_lines component date text = date_line component date ++ text_line component text

-- one byte or more, and each may stand in the name of a field
abbrev pub is_component : List ℕ → Bool
is_component [] = false
is_component (b ∷ bytes) = list_all is_name_byte (b ∷ bytes)

-- neither a line feed nor a carriage return
abbrev pub is_line_byte : ℕ → Bool
is_line_byte b = not (b == 10 || b == 13)

-- the text stands on one line
abbrev pub is_on_a_line : List ℕ → Bool
is_on_a_line text = list_all is_line_byte text
