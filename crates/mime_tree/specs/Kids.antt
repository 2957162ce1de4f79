-- Where the kids of a part are.
use Rattle.std.specs.Prelude.{ℕ, ◌&&◌, Bool, true, false, List, [], ◌∷◌, Option, Some, None, if◌then◌else◌}
use Rattle.mime_tree.specs.declared.span.Span.{Span}
use Rattle.mime_tree.specs.declared.encoding.Encoding.{Encoding}
use Rattle.mime_tree.specs.declared.encoding.Encoding.TheVariants.{Plain}
use Rattle.mime_tree.specs.declared.odd.Odd.TheVariants.{None as no_odd, NoBoundary}
use Rattle.mime_tree.specs.declared.content_type.ContentType.{ContentType}
use Rattle.mime_tree.specs.BoundaryLines.{lines}
use Rattle.mime_tree.specs.ContentTypes.{is_multipart, is_message, boundary_of}
use Rattle.mime_tree.specs.Pieces.{Found, pieces}
use Rattle.mime_tree.specs.Spans.{text_at}

-- the body stands in the bytes as it is
abbrev pub is_plain : Encoding → Bool
is_plain Plain = true
is_plain other = false

abbrev pub cut_by : Option (List ℕ) → List ℕ → Span → Found
cut_by None bytes body = record { spans = []; odd = NoBoundary }
cut_by (Some boundary) bytes body = pieces boundary body.from (lines (text_at bytes body))

-- the kids of a part of this type are the pieces of a multipart, or the one message of a message/rfc822, where its body
-- is plain; a multipart that can't be cut has none
unfoldable pub kids_of : ContentType → Encoding → List ℕ → Span → Found
kids_of t encoding bytes body =
    if is_multipart t
    then (if is_plain encoding then cut_by (boundary_of t.params) bytes body
    else record { spans = []; odd = NoBoundary })
    else (if is_message t && is_plain encoding then record { spans = body ∷ []; odd = no_odd }
    else record { spans = []; odd = no_odd })
