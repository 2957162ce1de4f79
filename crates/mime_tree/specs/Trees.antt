-- The tree of a message's parts (RFC 2045 and RFC 2046).
use Rattle.std.specs.Prelude.{◌≡◌, ℕ, zero, suc, ◌+◌, ◌-◌, ◌==◌, List, [], ◌∷◌, ◌++◌, length, slice_get, Option, Some, None, option_and_then, if◌then◌else◌}
use Rattle.mail_headers.specs.Message.{body_of}
use Rattle.mime_tree.specs.declared.fallback.Fallback.{Fallback}
use Rattle.mime_tree.specs.declared.odd.Odd.{Odd}
use Rattle.mime_tree.specs.declared.odd.Odd.TheVariants.{TooDeep}
use Rattle.mime_tree.specs.declared.part.Part.{Part, out-Part}
use Rattle.mime_tree.specs.declared.span.Span.{Span}
use Rattle.mime_tree.specs.declared.content_type.ContentType.{ContentType}
use Rattle.mime_tree.specs.ContentTypes.{type_of_message, fallback_in}
use Rattle.mime_tree.specs.Encodings.{encoding_of, decoded}
use Rattle.mime_tree.specs.Kids.{kids_of}
use Rattle.mime_tree.specs.Pieces.{Found}
use Rattle.mime_tree.specs.Spans.{text_at}

-- where the body of the message at this span begins
abbrev pub body_from : List ℕ → Span → ℕ
body_from bytes span = span.to - length (body_of (text_at bytes span))

abbrev pub head_at : List ℕ → Span → Span
head_at bytes span = record { from = span.from; to = body_from bytes span }

abbrev pub body_at : List ℕ → Span → Span
body_at bytes span = record { from = body_from bytes span; to = span.to }

-- the type of the message at this span
abbrev pub type_at : List ℕ → Fallback → Span → ContentType
type_at bytes fallback span = type_of_message fallback (text_at bytes span)

-- where its kids are
abbrev pub kids_at : List ℕ → Fallback → Span → Found
kids_at bytes fallback span =
    kids_of (type_at bytes fallback span) (encoding_of (text_at bytes span)) bytes (body_at bytes span)

-- the part is the message at this span, whatever its kids are
pub record IsMessagePart (bytes : List ℕ) (fallback : Fallback) (path : List ℕ) (span : Span)
    (part : Part) : Type 0 where
  pub path_is : (out-Part part).path ≡ path
  pub kind_is : (out-Part part).kind ≡ (type_at bytes fallback span).kind
  pub subtype_is : (out-Part part).subtype ≡ (type_at bytes fallback span).subtype
  pub params_are : (out-Part part).params ≡ (type_at bytes fallback span).params
  pub encoding_is : (out-Part part).encoding ≡ encoding_of (text_at bytes span)
  pub head_is : (out-Part part).head ≡ head_at bytes span
  pub body_is : (out-Part part).body ≡ body_at bytes span

-- each of the kids is the part at its span, and its path ends with its number
abbrev pub AreKids : (List ℕ → Span → Part → Type 0) → List ℕ → ℕ → List Span → List Part → Type 0
AreKids Is path n [] [] = Unit {0}
AreKids Is path n (span ∷ spans) (kid ∷ kids) = Is (path ++ n ∷ []) span kid × AreKids Is path (n + 1) spans kids
AreKids Is path n [] (kid ∷ kids) = ⊥
AreKids Is path n (span ∷ spans) [] = ⊥

-- what is odd about a part with so many levels below it: it is too deep where it would have kids and may have none
abbrev pub odd_at : ℕ → Found → Odd
odd_at zero found = if length found.spans == 0 then found.odd else TooDeep
odd_at (suc levels) found = found.odd

-- the part is the message at this span, with kids down to so many levels below it
unfoldable pub IsPart : ℕ → List ℕ → Fallback → List ℕ → Span → Part → Type 0
IsPart zero bytes fallback path span part =
    IsMessagePart bytes fallback path span part
    × ((out-Part part).kids.items ≡ [])
    × ((out-Part part).odd ≡ odd_at zero (kids_at bytes fallback span))
IsPart (suc levels) bytes fallback path span part =
    IsMessagePart bytes fallback path span part
    × AreKids (IsPart levels bytes (fallback_in (type_at bytes fallback span))) path 1
    (kids_at bytes fallback span).spans (out-Part part).kids.items
    × ((out-Part part).odd ≡ odd_at (suc levels) (kids_at bytes fallback span))

-- the bytes that a part carries: a leaf's body decoded, another's as it stands
abbrev pub content_of : List ℕ → Part → List ℕ
content_of bytes part =
    let body = text_at bytes (out-Part part).body in
    if length (out-Part part).kids.items == 0 then decoded (out-Part part).encoding body else body

-- the kid of this number, from 1
abbrev pub kid_of : ℕ → Part → Option Part
kid_of zero part = None
kid_of (suc n) part = slice_get (out-Part part).kids.items n

-- the part at this path below a part
abbrev pub part_at : List ℕ → Part → Option Part
part_at [] part = Some part
part_at (n ∷ path) part = option_and_then (part_at path) (kid_of n part)
