-- What the bytes of an encoded word stand for.
use Rattle.std.specs.Prelude.{ℕ, nat_lt, List, map, if◌then◌else◌}
use Rattle.mail_text.specs.ShownBytes.{shown}
use Rattle.mail_text.specs.declared.charset.Charset.{Charset}
use Rattle.mail_text.specs.declared.charset.Charset.TheVariants.{UsAscii, Utf8, Latin1}

-- a byte of US-ASCII, or a question mark above 127
abbrev pub ascii_character : ℕ → ℕ
ascii_character b = if nat_lt b 128 then b else 63

-- the characters of these bytes; in ISO-8859-1 a byte is the character of its number
abbrev pub characters_by : Charset → List ℕ → List ℕ
characters_by UsAscii bytes = map ascii_character bytes
characters_by Utf8 bytes = shown bytes
characters_by Latin1 bytes = bytes
