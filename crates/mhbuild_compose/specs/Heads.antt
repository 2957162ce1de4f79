-- The header lines of a part (RFC 2045, sections 5 to 8; RFC 2183).
use Rattle.std.specs.Prelude.{ℕ, ◌==◌, ◌&&◌, ◌||◌, not, Bool, bytes_eq, codes, List, [], ◌∷◌, ◌++◌, Option, Some, None, if◌then◌else◌}
use Rattle.std.specs.List.{list_any}
use Rattle.mail_headers.specs.Fields.{same_name}
use Rattle.mh_drafts.specs.declared.label.Attribute.{Attribute}
use Rattle.mh_drafts.specs.declared.label.Label.{Label}
use Rattle.mhbuild_compose.specs.declared.encoding.Encoding.{Encoding}
use Rattle.mhbuild_compose.specs.declared.encoding.Encoding.TheVariants.{SevenBit, EightBit, QuotedPrintable, Base64}

-- a backslash stands before a quote mark and a backslash
abbrev pub protected_byte : ℕ → List ℕ
protected_byte b = if b == 34 || b == 92 then 92 ∷ b ∷ [] else b ∷ []

unfoldable pub protected_text : List ℕ → List ℕ
protected_text [] = []
protected_text (b ∷ rest) = protected_byte b ++ protected_text rest

-- `; name="value"`
abbrev pub attribute_text : Attribute → List ℕ
attribute_text a = codes "; " ++ (a.name ++ (codes "=\"" ++ (protected_text a.value ++ codes "\"")))

unfoldable pub attributes_text : List Attribute → List ℕ
attributes_text [] = []
attributes_text (a ∷ more) = attribute_text a ++ attributes_text more

abbrev pub is_charset : Attribute → Bool
is_charset a = same_name a.name (codes "charset")

-- a text that names no character set
abbrev pub needs_charset : Label → Bool
needs_charset label = bytes_eq label.kind (codes "text") && not (list_any is_charset label.attributes)

-- it is given one, by whether its body has a byte above 127
abbrev pub charset_text : Label → Bool → List ℕ
charset_text label high =
    if not (needs_charset label) then []
    else (if high then codes "; charset=\"utf-8\"" else codes "; charset=\"us-ascii\"")

-- what is there, between these texts
abbrev pub bracketed : List ℕ → Option (List ℕ) → List ℕ → List ℕ
bracketed front None back = []
bracketed front (Some inside) back = front ++ (inside ++ back)

-- the field's name, the type and the subtype
unfoldable pub name_text : Label → List ℕ
name_text label = codes "Content-Type: " ++ (label.kind ++ (codes "/" ++ label.subtype))

-- the line that names the type, with its parameters and the comment
unfoldable pub type_text : Label → Bool → List ℕ
type_text label high =
    name_text label
    ++ (attributes_text label.attributes
    ++ (charset_text label high ++ (bracketed (codes " (") label.comment (codes ")") ++ codes "\n")))

abbrev pub encoding_line : Encoding → List ℕ
encoding_line SevenBit = []
encoding_line EightBit = codes "Content-Transfer-Encoding: 8bit\n"
encoding_line QuotedPrintable = codes "Content-Transfer-Encoding: quoted-printable\n"
encoding_line Base64 = codes "Content-Transfer-Encoding: base64\n"

-- all header lines of a part
abbrev pub head_of : Label → Bool → Encoding → List ℕ
head_of label high encoding =
    type_text label high
    ++ (bracketed (codes "Content-ID: <") label.id (codes ">\n")
    ++ (bracketed (codes "Content-Description: ") label.description (codes "\n")
    ++ (bracketed (codes "Content-Disposition: ") label.disposition (codes "\n") ++ encoding_line encoding)))
