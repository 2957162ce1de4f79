-- The values of a message's components.
use Rattle.std.specs.Prelude.{ℕ, List, [], take, Option, Some, None, codes, if◌then◌else◌}
use Rattle.std.specs.Str.{encode_utf8_all}
use Rattle.mail_headers.specs.Fields.{fields_of, first_value, same_name}
use Rattle.mail_headers.specs.Message.{body_of}
use Rattle.mail_headers.specs.Unfolding.{unfolded}
use Rattle.mail_text.specs.ShownBytes.{shown}
use Rattle.mail_text.specs.Stripping.{stripped}

-- the body's first 1,024 bytes, shown on one line
abbrev pub shown_body : List ℕ → List ℕ
shown_body message = stripped (shown (take 1024 (body_of message)))

-- a field's value, unfolded and shown; nothing where there is no such field
abbrev pub shown_field : Option (List ℕ) → List ℕ
shown_field None = []
shown_field (Some value) = shown (unfolded value)

-- the value of the component of this name, in bytes, whose case doesn't count: the body, or the first field of this
-- name
abbrev pub value_named : List ℕ → List ℕ → List ℕ
value_named name message =
    if same_name name (codes "body") then shown_body message else shown_field (first_value name (fields_of message))

abbrev pub value_of : List ℕ → List ℕ → List ℕ
value_of name message = value_named (encode_utf8_all name) message
