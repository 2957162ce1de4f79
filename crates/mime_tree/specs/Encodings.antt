-- How a part's body is carried (RFC 2045, section 6).
use Rattle.std.specs.Prelude.{ℕ, List, codes, Option, Some, None, if◌then◌else◌}
use Rattle.mail_headers.specs.Fields.{fields_of, first_value, same_name}
use Rattle.mail_headers.specs.Unfolding.{unfolded}
use Rattle.mime_codes.specs.QuotedPrintable.{qp_decoded}
use Rattle.mime_codes.specs.Base64.{b64_decoded}
use Rattle.mime_tree.specs.declared.encoding.Encoding.{Encoding}
use Rattle.mime_tree.specs.declared.encoding.Encoding.TheVariants.{Plain, QuotedPrintable, Base64}

-- the encoding of this name, without regard to case
unfoldable pub encoding_named : List ℕ → Encoding
encoding_named name =
    if same_name name (codes "quoted-printable") then QuotedPrintable
    else (if same_name name (codes "base64") then Base64 else Plain)

abbrev pub encoding_by : Option (List ℕ) → Encoding
encoding_by None = Plain
encoding_by (Some value) = encoding_named (unfolded value)

-- the encoding that the message's first Content-Transfer-Encoding field names
abbrev pub encoding_of : List ℕ → Encoding
encoding_of message = encoding_by (first_value (codes "Content-Transfer-Encoding") (fields_of message))

-- the bytes that a body carries
abbrev pub decoded : Encoding → List ℕ → List ℕ
decoded Plain body = body
decoded QuotedPrintable body = qp_decoded body
decoded Base64 body = b64_decoded body
