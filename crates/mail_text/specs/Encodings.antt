-- The bytes for which the text of an encoded word stands.
use Rattle.std.specs.Prelude.{ℕ, zero, suc, ◌==◌, List, [], ◌∷◌, if◌then◌else◌}
use Rattle.std.specs.Str.{encode_utf8_all}
use Rattle.mime_codes.specs.Base64.{b64_decoded}
use Rattle.mime_codes.specs.Hexadecimal.{escaped_byte}
use Rattle.mime_codes.specs.QuotedPrintable.{with_escaped}
use Rattle.mail_text.specs.declared.encoding.Encoding.{Encoding}
use Rattle.mail_text.specs.declared.encoding.Encoding.TheVariants.{B, Q}

-- the bytes for which a text in the encoding Q stands once so many bytes are passed: _ is a space, an equals sign and
-- two hexadecimal digits are a byte, and every other byte stands for itself (RFC 2047, section 4.2)
unfoldable pub q_behind : ℕ → List ℕ → List ℕ
q_behind n [] = []
q_behind (suc n) (b ∷ rest) = q_behind n rest
q_behind zero (b ∷ rest) =
    if b == 95 then 32 ∷ q_behind 0 rest
    else (if b == 61 then with_escaped (escaped_byte rest) (q_behind 2 rest) (b ∷ q_behind 0 rest)
    else b ∷ q_behind 0 rest)

abbrev pub q_decoded : List ℕ → List ℕ
q_decoded bytes = q_behind 0 bytes

-- the bytes of these characters; a character beyond ASCII stands for its UTF-8
abbrev pub bytes_by : Encoding → List ℕ → List ℕ
bytes_by B text = b64_decoded (encode_utf8_all text)
bytes_by Q text = q_decoded (encode_utf8_all text)
