-- A message written, node by node (RFC 2046, section 5.1).
use Rattle.std.specs.Prelude.{ℕ, Bool, false, codes, List, [], ◌∷◌, ◌++◌, Option, Some, None, if◌then◌else◌}
use Rattle.mh_drafts.specs.declared.kind.Kind.{Kind}
use Rattle.mh_drafts.specs.declared.kind.Kind.TheVariants.{Mixed, Alternative, Parallel, Digest}
use Rattle.mhbuild_compose.specs.declared.encoding.Encoding.{Encoding}
use Rattle.mhbuild_compose.specs.declared.encoding.Encoding.TheVariants.{SevenBit, EightBit}
use Rattle.mhbuild_compose.specs.declared.node.Node.{Node}
use Rattle.mhbuild_compose.specs.declared.node.Node.TheVariants.{Leaf, Begin, End}
use Rattle.mhbuild_compose.specs.declared.node.Piece.{Piece}
use Rattle.mhbuild_compose.specs.Boundaries.{boundary_of}
use Rattle.mhbuild_compose.specs.Heads.{encoding_line}

-- the first flag and the first key, and those that are left
abbrev pub first_flag : List Bool → Bool
first_flag [] = false
first_flag (flag ∷ flags) = flag

abbrev pub flags_left : List Bool → List Bool
flags_left [] = []
flags_left (flag ∷ flags) = flags

abbrev pub first_key : List ℕ → ℕ
first_key [] = 0
first_key (key ∷ keys) = key

abbrev pub keys_left : List ℕ → List ℕ
keys_left [] = []
keys_left (key ∷ keys) = keys

-- the key of the innermost multipart that is open
abbrev pub inner : List ℕ → Option ℕ
inner [] = None
inner (key ∷ levels) = Some key

abbrev pub levels_left : List ℕ → List ℕ
levels_left [] = []
levels_left (key ∷ levels) = levels

-- the line before a part of the multipart with this key
abbrev pub line_of : ℕ → ℕ → List ℕ
line_of run key = codes "--" ++ (boundary_of run key ++ codes "\n")

-- the line behind its last part
abbrev pub closing_of : ℕ → ℕ → List ℕ
closing_of run key = codes "--" ++ (boundary_of run key ++ codes "--\n")

-- what stands before a part, by the multipart in which it is, if it is in one
abbrev pub lead_by : ℕ → Option ℕ → List ℕ
lead_by run None = []
lead_by run (Some key) = line_of run key

-- what stands behind it
abbrev pub trail_by : Option ℕ → List ℕ
trail_by None = []
trail_by (Some key) = codes "\n"

-- a part without parts: its header lines, an empty line and its body
abbrev pub leaf_text : Piece → List ℕ
leaf_text piece = piece.head ++ (codes "\n" ++ piece.body)

abbrev pub kind_text : Kind → List ℕ
kind_text Mixed = codes "mixed"
kind_text Alternative = codes "alternative"
kind_text Parallel = codes "parallel"
kind_text Digest = codes "digest"

abbrev pub encoding_with : Bool → Encoding
encoding_with eight = if eight then EightBit else SevenBit

-- the line that names a multipart's type
unfoldable pub multipart_type : ℕ → Kind → ℕ → List ℕ
multipart_type run kind key =
    codes "Content-Type: multipart/"
    ++ (kind_text kind ++ (codes "; boundary=\"" ++ (boundary_of run key ++ codes "\"\n")))

-- the header lines of a multipart and the empty line behind them
abbrev pub multipart_head : ℕ → Kind → Bool → ℕ → List ℕ
multipart_head run kind eight key = multipart_type run kind key ++ (encoding_line (encoding_with eight) ++ codes "\n")

-- where a multipart ends
abbrev pub end_text : ℕ → List ℕ → List ℕ
end_text run [] = []
end_text run (key ∷ levels) = closing_of run key ++ trail_by (inner levels)

-- what a node writes, where multiparts with these keys are open, the innermost first, and these flags and keys are
-- those of the multiparts that are to begin
abbrev pub node_text : ℕ → List ℕ → List Bool → List ℕ → Node → List ℕ
node_text run levels flags keys (Leaf piece) =
    lead_by run (inner levels) ++ (leaf_text piece ++ trail_by (inner levels))
node_text run levels flags keys (Begin kind) =
    lead_by run (inner levels) ++ multipart_head run kind (first_flag flags) (first_key keys)
node_text run levels flags keys End = end_text run levels

abbrev pub levels_behind : List ℕ → List ℕ → Node → List ℕ
levels_behind levels keys (Leaf piece) = levels
levels_behind levels keys (Begin kind) = first_key keys ∷ levels
levels_behind levels keys End = levels_left levels

abbrev pub flags_behind : List Bool → Node → List Bool
flags_behind flags (Leaf piece) = flags
flags_behind flags (Begin kind) = flags_left flags
flags_behind flags End = flags

abbrev pub keys_behind : List ℕ → Node → List ℕ
keys_behind keys (Leaf piece) = keys
keys_behind keys (Begin kind) = keys_left keys
keys_behind keys End = keys

-- what these nodes write
unfoldable pub written : ℕ → List ℕ → List Bool → List ℕ → List Node → List ℕ
written run levels flags keys [] = []
written run levels flags keys (node ∷ nodes) =
    node_text run levels flags keys node
    ++ written run (levels_behind levels keys node) (flags_behind flags node) (keys_behind keys node) nodes
