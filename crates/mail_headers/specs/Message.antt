-- What a message is: its fields, and behind them nothing, an empty line and the body, or the body at once.
use Rattle.std.specs.Prelude.{ℕ, zero, suc, List, length, drop, Option, Some, None}
use Rattle.mail_headers.specs.Lines.{folded_len, empty_line_len}
use Rattle.mail_headers.specs.Fields.{FieldText, first_field}

abbrev pub behind_first : Option FieldText → List ℕ → List ℕ → List ℕ
behind_first None bytes rest = bytes
behind_first (Some field) bytes rest = rest

-- what is left behind the fields, of which there are at most so many
abbrev pub rest_up_to : ℕ → List ℕ → List ℕ
rest_up_to zero bytes = bytes
rest_up_to (suc n) bytes = behind_first (first_field bytes) bytes (rest_up_to n (drop (folded_len bytes) bytes))

unfoldable pub rest_of : List ℕ → List ℕ
rest_of bytes = rest_up_to (length bytes) bytes

-- the body: what follows the fields, without an empty line that ends them
abbrev pub body_of : List ℕ → List ℕ
body_of bytes = drop (empty_line_len (rest_of bytes)) (rest_of bytes)
