-- The type of a part (RFC 2045, section 5; RFC 2046, section 5).
use Rattle.std.specs.Prelude.{ℕ, ◌&&◌, nat_le, Bool, List, [], ◌∷◌, length, codes, Option, Some, None, unwrap_or, option_map, option_and_then, if◌then◌else◌}
use Rattle.std.specs.Str.{chars, encode_utf8_all}
use Rattle.mail_headers.specs.Fields.{fields_of, first_value, same_name}
use Rattle.mail_headers.specs.Unfolding.{unfolded}
use Rattle.mail_text.specs.ShownBytes.{shown}
use Rattle.mime_tree.specs.declared.content_type.ContentType.{ContentType}
use Rattle.mime_tree.specs.declared.fallback.Fallback.{Fallback}
use Rattle.mime_tree.specs.declared.fallback.Fallback.TheVariants.{TextPlain, WholeMessage}
use Rattle.mime_tree.specs.declared.param.Param.{Param}
use Rattle.mime_tree.specs.Gaps.{behind_gap}
use Rattle.mime_tree.specs.Params.{params_in}
use Rattle.mime_tree.specs.Tokens.{Taken, behind_sign, word_in}

-- the words before and behind a slash
pub record Halves : Type 0 where
  pub kind : Taken
  pub subtype : Taken

abbrev pub halves_behind : Taken → Option Halves
halves_behind kind =
    option_map (λ subtype. record { kind = kind; subtype = subtype })
    (option_and_then word_in (behind_sign 47 kind.rest))

-- a word, a slash and another word, with gaps anywhere between them
abbrev pub halves_in : List ℕ → Option Halves
halves_in value = option_and_then halves_behind (option_and_then word_in (behind_gap value))

-- the type of these two words and the parameters that follow
abbrev pub type_of : Halves → Option ContentType
type_of h =
    option_map (λ params. record { kind = shown h.kind.value; subtype = shown h.subtype.value; params = params })
    (params_in h.subtype.rest)

-- the type that a value names; none where it isn't of that form
unfoldable pub type_in : List ℕ → Option ContentType
type_in value = option_and_then type_of (halves_in value)

-- the type of a part that names none
abbrev pub fallback_type : Fallback → ContentType
fallback_type TextPlain = record { kind = chars (codes "text"); subtype = chars (codes "plain"); params = [] }
fallback_type WholeMessage = record { kind = chars (codes "message"); subtype = chars (codes "rfc822"); params = [] }

-- the type that the message's first Content-Type field names
abbrev pub named_type : List ℕ → Option ContentType
named_type message =
    option_and_then (λ value. type_in (unfolded value)) (first_value (codes "Content-Type") (fields_of message))

-- a message's type
unfoldable pub type_of_message : Fallback → List ℕ → ContentType
type_of_message fallback message = unwrap_or (named_type message) (fallback_type fallback)

-- a text is this word, without regard to case
abbrev pub is_word : List ℕ → List ℕ → Bool
is_word text word = same_name (encode_utf8_all text) word

unfoldable pub is_multipart : ContentType → Bool
is_multipart t = is_word t.kind (codes "multipart")

unfoldable pub is_message : ContentType → Bool
is_message t = is_word t.kind (codes "message") && is_word t.subtype (codes "rfc822")

unfoldable pub is_digest : ContentType → Bool
is_digest t = is_word t.kind (codes "multipart") && is_word t.subtype (codes "digest")

-- what a part within one of this type is where it names no type
abbrev pub fallback_in : ContentType → Fallback
fallback_in t = if is_digest t then WholeMessage else TextPlain

-- the value of the first parameter of this name
unfoldable pub param_value : List ℕ → List Param → Option (List ℕ)
param_value name [] = None
param_value name (p ∷ ps) = if is_word p.name name then Some p.value else param_value name ps

-- a boundary that can be cut by
abbrev pub usable : List ℕ → Option (List ℕ)
usable value = if nat_le 1 (length value) && nat_le (length value) 70 then Some (encode_utf8_all value) else None

-- the boundary of a multipart: 1 to 70 characters (RFC 2046, section 5.1.1)
unfoldable pub boundary_of : List Param → Option (List ℕ)
boundary_of params = option_and_then usable (param_value (codes "boundary") params)
