-- What rows and files tell of the parts of a message.
use Rattle.std.specs.Prelude.{ℕ, zero, suc, ◌+◌, ◌==◌, Bool, true, List, [], ◌∷◌, ◌++◌, length, codes, Option, Some, None, if◌then◌else◌}
use Rattle.mail_headers.specs.Fields.{fields_of, first_value}
use Rattle.mail_headers.specs.Unfolding.{unfolded}
use Rattle.mail_text.specs.EncodedWords.{decoded as decoded_words}
use Rattle.mail_text.specs.ShownBytes.{shown}
use Rattle.mail_text.specs.Stripping.{stripped}
use Rattle.mime_tree.specs.declared.odd.Odd.{Odd}
use Rattle.mime_tree.specs.declared.part.Part.{Part, out-Part}
use Rattle.mime_tree.specs.declared.span.Span.{Span}
use Rattle.mime_tree.specs.ContentTypes.{fallback_in}
use Rattle.mime_tree.specs.Encodings.{encoding_of, decoded}
use Rattle.mime_tree.specs.Spans.{text_at, whole}
use Rattle.mime_tree.specs.Trees.{body_at, content_of, kids_at, odd_at, type_at}

-- the type of what a function gives
abbrev pub given_by : {A B : Type 0} → (A → B) → Type 0
given_by {A} {B} f = B

-- what a part is that names no type, as a part's type decides it for its kids; mime_tree keeps this type's name to
-- itself
abbrev pub Fallback : Type 0
Fallback = given_by fallback_in

-- plain text, as in each part that is no digest (RFC 2045, section 5.2); so is a message that names no type
abbrev pub plain_text : Fallback
plain_text = fallback_in (record { kind = []; subtype = []; params = [] })

-- what is told of a part
pub record PartView : Type 0 where
  pub path : List ℕ
  pub kind : List ℕ
  pub subtype : List ℕ
  pub description : List ℕ
  pub odd : Odd
  pub is_leaf : Bool
  pub content : List ℕ

-- a field's value as a description: its characters on one line, with those of its encoded words
abbrev pub description_by : Option (List ℕ) → List ℕ
description_by None = []
description_by (Some value) = stripped (decoded_words (shown (unfolded value)))

-- how a message describes itself (RFC 2045, section 8)
abbrev pub description_of : List ℕ → List ℕ
description_of message = description_by (first_value (codes "Content-Description") (fields_of message))

-- where the message that a part is stands
abbrev pub span_of : Part → Span
span_of part = record { from = (out-Part part).head.from; to = (out-Part part).body.to }

-- what is told of this part of a message
abbrev pub view_of : List ℕ → Part → PartView
view_of bytes part = record {
  path = (out-Part part).path;
  kind = (out-Part part).kind;
  subtype = (out-Part part).subtype;
  description = description_of (text_at bytes (span_of part));
  odd = (out-Part part).odd;
  is_leaf = length (out-Part part).kids.items == 0;
  content = content_of bytes part;
}

-- the bytes that the message at this span carries: a leaf's body decoded, another's as it stands
abbrev pub content_at : Bool → List ℕ → Span → List ℕ
content_at is_leaf bytes span =
    let body = text_at bytes (body_at bytes span) in
    if is_leaf then decoded (encoding_of (text_at bytes span)) body else body

-- what is told of the message at this span, with what is odd about it and whether it is a leaf
abbrev pub view_at : Odd → Bool → List ℕ → Fallback → List ℕ → Span → PartView
view_at odd is_leaf bytes fallback path span = record {
  path = path;
  kind = (type_at bytes fallback span).kind;
  subtype = (type_at bytes fallback span).subtype;
  description = description_of (text_at bytes span);
  odd = odd;
  is_leaf = is_leaf;
  content = content_at is_leaf bytes span;
}

-- what is told of the kids at these spans, the first of which has this number: of each before the next, with the parts
-- below it
abbrev pub within : (List ℕ → Span → List PartView) → List ℕ → ℕ → List Span → List PartView
within parts path n [] = []
within parts path n (span ∷ spans) = parts (path ++ n ∷ []) span ++ within parts path (n + 1) spans

-- what is told of the message at this span, and behind it what is told of its kids and the parts below them, down to so
-- many levels
unfoldable pub parts_at : ℕ → List ℕ → Fallback → List ℕ → Span → List PartView
parts_at zero bytes fallback path span =
    view_at (odd_at zero (kids_at bytes fallback span)) true bytes fallback path span ∷ []
parts_at (suc levels) bytes fallback path span =
    let kids = kids_at bytes fallback span in
    view_at (odd_at (suc levels) kids) (length kids.spans == 0) bytes fallback path span
    ∷ within (parts_at levels bytes (fallback_in (type_at bytes fallback span))) path 1 kids.spans

-- the parts of a message in the order of the tree: from the root on, each before its kids
abbrev pub parts_of : List ℕ → List PartView
parts_of bytes = parts_at 64 bytes plain_text [] (whole bytes)
