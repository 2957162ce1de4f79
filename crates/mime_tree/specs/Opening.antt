-- What the code knows of a message before it reads the parts in it.
use Rattle.std.specs.Prelude.{◌≡◌, ℕ, List}
use Rattle.mime_tree.specs.declared.fallback.Fallback.{Fallback}
use Rattle.mime_tree.specs.declared.odd.Odd.{Odd}
use Rattle.mime_tree.specs.declared.part.Part.{Part, out-Part}
use Rattle.mime_tree.specs.declared.reading.Opened.{Opened}
use Rattle.mime_tree.specs.declared.span.Span.{Span}
use Rattle.mime_tree.specs.Encodings.{encoding_of}
use Rattle.mime_tree.specs.FoundPieces.{found}
use Rattle.mime_tree.specs.Spans.{text_at}
use Rattle.mime_tree.specs.Trees.{body_at, type_at, kids_at}

-- this is what the message at this span says
pub record Opens (bytes : List ℕ) (fallback : Fallback) (span : Span) (opened : Opened) : Type 0 where
  pub type_is : opened.content_type ≡ type_at bytes fallback span
  pub encoding_is : opened.encoding ≡ encoding_of (text_at bytes span)
  pub body_is : opened.body ≡ body_at bytes span
  pub kids_are : found opened.kids ≡ kids_at bytes fallback span

-- the part of these
pub record IsPartOf (opened : Opened) (span : Span) (path : List ℕ) (odd : Odd) (kids : List Part)
    (part : Part) : Type 0 where
  pub path_is : (out-Part part).path ≡ path
  pub kind_is : (out-Part part).kind ≡ opened.content_type.kind
  pub subtype_is : (out-Part part).subtype ≡ opened.content_type.subtype
  pub params_are : (out-Part part).params ≡ opened.content_type.params
  pub encoding_is : (out-Part part).encoding ≡ opened.encoding
  pub head_is : (out-Part part).head ≡ record { from = span.from; to = opened.body.from }
  pub body_is : (out-Part part).body ≡ opened.body
  pub odd_is : (out-Part part).odd ≡ odd
  pub kids_are : (out-Part part).kids.items ≡ kids
