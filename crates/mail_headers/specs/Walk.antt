-- A walk over the fields.
use Rattle.std.specs.Prelude.{List}
use Rattle.mail_headers.specs.declared.fields.Fields.{Fields}
use Rattle.mail_headers.specs.Fields.{FieldText, fields_of}

-- the fields that are left
abbrev pub fields_left : Fields → List FieldText
fields_left f = fields_of f.rest.now
