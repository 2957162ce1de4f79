-- Parts without parts.
use Rattle.std.specs.Prelude.{ℕ, Bool, true, false, codes, List, [], None}
use Rattle.std.specs.List.{list_any}
use Rattle.mh_drafts.specs.declared.label.Label.{Label}
use Rattle.mhbuild_compose.specs.declared.encoding.Encoding.{Encoding}
use Rattle.mhbuild_compose.specs.declared.encoding.Encoding.TheVariants.{SevenBit, EightBit, QuotedPrintable, Base64}
use Rattle.mhbuild_compose.specs.declared.node.Piece.{Piece}
use Rattle.mhbuild_compose.specs.Encodings.{encoded_by, encoding_of, is_high}
use Rattle.mhbuild_compose.specs.Heads.{head_of}

abbrev pub plain_label : List ℕ → List ℕ → Label
plain_label kind subtype = record {
  kind = kind;
  subtype = subtype;
  attributes = [];
  comment = None;
  id = None;
  description = None;
  disposition = None;
}

-- lines of the draft
abbrev pub text_label : Label
text_label = plain_label (codes "text") (codes "plain")

-- a message
abbrev pub message_label : Label
message_label = plain_label (codes "message") (codes "rfc822")

abbrev pub is_eight : Encoding → Bool
is_eight SevenBit = false
is_eight EightBit = true
is_eight QuotedPrintable = false
is_eight Base64 = false

-- the part with this label and these bytes
abbrev pub piece_of : Label → List ℕ → Piece
piece_of label text =
    let encoding = encoding_of label.kind text in
    record {
      head = head_of label (list_any is_high text) encoding;
      eight = is_eight encoding;
      body = encoded_by encoding text;
    }
