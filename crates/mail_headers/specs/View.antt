-- What the code's fields show.
use Rattle.std.specs.Prelude.{◌≡◌, ℕ, List, Option, Some, None, drop}
use Rattle.mail_headers.specs.declared.field.Field.{Field}
use Rattle.mail_headers.specs.Fields.{FieldText, first_field}
use Rattle.mail_headers.specs.Lines.{folded_len}

abbrev pub field_text : Field → FieldText
field_text f = record { name = f.name.now; value = f.value.now }

-- one field was taken off the front; or none begins there
abbrev pub Steps : List ℕ → List ℕ → Option Field → Type 0
Steps old new None = (first_field old ≡ None) × (new ≡ old)
Steps old new (Some f) = (first_field old ≡ Some (field_text f)) × (new ≡ drop (folded_len old) old)
