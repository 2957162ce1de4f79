-- Encoded words (RFC 2047).
use Rattle.std.specs.Prelude.{ℕ, zero, suc, ◌==◌, ◌||◌, not, Bool, List, [], ◌∷◌, ◌++◌, length, take, drop, map, codes, bytes_eq, is_some, Option, Some, None, option_and_then, if◌then◌else◌}
use Rattle.std.specs.List.{prefix_len}
use Rattle.std.specs.Char.{to_ascii_uppercase}
use Rattle.mail_text.specs.Charsets.{characters_by}
use Rattle.mail_text.specs.Encodings.{bytes_by}
use Rattle.mail_text.specs.declared.charset.Charset.{Charset}
use Rattle.mail_text.specs.declared.charset.Charset.TheVariants.{UsAscii, Utf8, Latin1}
use Rattle.mail_text.specs.declared.encoding.Encoding.{Encoding}
use Rattle.mail_text.specs.declared.encoding.Encoding.TheVariants.{B, Q}
use Rattle.mh_base.specs.Characters.{is_blank}

-- an encoded word at the front of a text: what it is made of, and what stands behind it
pub record WordText : Type 0 where
  pub charset : Charset
  pub encoding : Encoding
  pub text : List ℕ
  pub behind : List ℕ

-- what stands behind this character, if a text begins with it
abbrev pub after : ℕ → List ℕ → Option (List ℕ)
after c [] = None
after c (d ∷ rest) = if d == c then Some rest else None

-- a character that ends no part of a word
abbrev pub is_inner : ℕ → Bool
is_inner c = not (c == 63)

-- the charset of this name, in either case
abbrev pub charset_named : List ℕ → Option Charset
charset_named name =
    let capitals = map to_ascii_uppercase name in
    if bytes_eq capitals (codes "UTF-8") then Some Utf8
    else (if bytes_eq capitals (codes "ISO-8859-1") then Some Latin1
    else (if bytes_eq capitals (codes "US-ASCII") then Some UsAscii else None))

-- the encoding of a letter, in either case
abbrev pub encoding_of : ℕ → Option Encoding
encoding_of c = if c == 66 || c == 98 then Some B else (if c == 81 || c == 113 then Some Q else None)

-- the encoding of the letter at the front
abbrev pub encoding_first : List ℕ → Option Encoding
encoding_first [] = None
encoding_first (c ∷ rest) = encoding_of c

-- a character of a word's text: no question mark, space, tab or line end
abbrev pub is_text : ℕ → Bool
is_text c = not (c == 63 || c == 32 || c == 9 || c == 10 || c == 13)

-- the signs ?= behind a word's text
abbrev pub closed : List ℕ → Option (List ℕ)
closed text = option_and_then (after 61) (after 63 text)

-- the text of a word of this charset and encoding, up to the signs ?=
abbrev pub word_of : Charset → Encoding → List ℕ → Option WordText
word_of charset encoding text =
    option_and_then
    (λ behind.
    Some record {
      charset = charset;
      encoding = encoding;
      text = take (prefix_len is_text text) text;
      behind = behind;
    })
    (closed (drop (prefix_len is_text text) text))

-- a letter and a question mark, and then the text
abbrev pub lettered : Charset → List ℕ → Option WordText
lettered charset text =
    option_and_then (λ encoding. option_and_then (word_of charset encoding) (after 63 (drop 1 text)))
    (encoding_first text)

-- a charset's name and a question mark, and then the rest of the word
abbrev pub named : List ℕ → Option WordText
named text =
    option_and_then (λ charset. option_and_then (lettered charset) (after 63 (drop (prefix_len is_inner text) text)))
    (charset_named (take (prefix_len is_inner text) text))

-- the encoded word at the front: =?charset?letter?text?=
unfoldable pub first_word : List ℕ → Option WordText
first_word text = option_and_then named (option_and_then (after 63) (after 61 text))

-- the characters for which a word stands
abbrev pub characters_of : WordText → List ℕ
characters_of w = characters_by w.charset (bytes_by w.encoding w.text)

-- what stands behind a word: without the blanks at the front where another word follows them
abbrev pub without_gap : List ℕ → List ℕ
without_gap text =
    let behind = drop (prefix_len is_blank text) text in
    if is_some (first_word behind) then behind else text

-- the first word's characters and then what stands behind it, or where no word begins, the first character and then the
-- rest
abbrev pub decoded_by : Option WordText → ℕ → List ℕ → (List ℕ → List ℕ) → List ℕ
decoded_by None c rest more = c ∷ more rest
decoded_by (Some w) c rest more = characters_of w ++ more (without_gap w.behind)

-- a text with the characters of its words, the leftmost first, in at most so many steps
abbrev pub decoded_within : ℕ → List ℕ → List ℕ
decoded_within zero text = []
decoded_within (suc n) [] = []
decoded_within (suc n) (c ∷ rest) = decoded_by (first_word (c ∷ rest)) c rest (decoded_within n)

-- a text with the characters of its words
unfoldable pub decoded : List ℕ → List ℕ
decoded text = decoded_within (length text) text
