-- The message that a draft becomes, as a tree (RFC 2046, section 5.1).
use Rattle.std.specs.Prelude.{ℕ, Bool, false, ◌||◌, List, [], ◌∷◌, ◌++◌, Option, Some}
use Rattle.mh_drafts.specs.declared.item.Leaf.{Leaf}
use Rattle.mh_drafts.specs.declared.item.Leaf.TheVariants.{Text as text_leaf, Messages as messages_leaf, File as file_leaf}
use Rattle.mh_drafts.specs.declared.kind.Kind.{Kind}
use Rattle.mh_drafts.specs.declared.kind.Kind.TheVariants.{Mixed, Digest}
use Rattle.mh_drafts.specs.Drafts.{Parts, none, leaf, multipart}
use Rattle.mhbuild_compose.specs.declared.given.Given.{Given}
use Rattle.mhbuild_compose.specs.declared.node.Piece.{Piece}
use Rattle.mhbuild_compose.specs.Nodes.{behind_given, file_in, messages_in}
use Rattle.mhbuild_compose.specs.Pieces.{piece_of, message_label, text_label}
use Rattle.mhbuild_compose.specs.Written.{closing_of, first_key, keys_left, lead_by, leaf_text, multipart_head, trail_by}

-- parts, one behind the other, with what is given in its place
pub data Tree : Type 0 where
  nothing : Tree
  piece : Piece → Tree → Tree
  several : Kind → Tree → Tree → Tree

-- messages, one behind the other
unfoldable pub message_trees : List (List ℕ) → Tree
message_trees [] = nothing
message_trees (message ∷ more) = piece (piece_of message_label message) (message_trees more)

-- one message, or a digest of several, before other parts
abbrev pub forwarded : List (List ℕ) → Tree → Tree
forwarded [] more = several Digest nothing more
forwarded (message ∷ []) more = piece (piece_of message_label message) more
forwarded (message ∷ other ∷ messages) more = several Digest (message_trees (message ∷ other ∷ messages)) more

-- what is given for other parts, behind a leaf
abbrev pub behind_leaf : Leaf → List Given → List Given
behind_leaf (text_leaf text) givens = givens
behind_leaf (file_leaf label) givens = behind_given givens
behind_leaf messages_leaf givens = behind_given givens

-- what is given for other parts, behind these
unfoldable pub left_behind : Parts → List Given → List Given
left_behind none givens = givens
left_behind (leaf l more) givens = left_behind more (behind_leaf l givens)
left_behind (multipart kind parts more) givens = left_behind more (left_behind parts givens)

-- a leaf before other parts
abbrev pub with_leaf : Leaf → List Given → Tree → Tree
with_leaf (text_leaf text) givens more = piece (piece_of text_label text) more
with_leaf (file_leaf label) givens more = piece (piece_of label (file_in givens)) more
with_leaf messages_leaf givens more = forwarded (messages_in givens) more

-- these parts with what is given
unfoldable pub tree_of : Parts → List Given → Tree
tree_of none givens = nothing
tree_of (leaf l more) givens = with_leaf l givens (tree_of more (behind_leaf l givens))
tree_of (multipart kind parts more) givens =
    several kind (tree_of parts givens) (tree_of more (left_behind parts givens))

-- one part is the root itself, several are the parts of a multipart, and where there is none an empty text is the root
unfoldable pub root : Tree → Tree
root nothing = piece (piece_of text_label []) nothing
root (piece p nothing) = piece p nothing
root (piece p (piece q more)) = several Mixed (piece p (piece q more)) nothing
root (piece p (several kind parts more)) = several Mixed (piece p (several kind parts more)) nothing
root (several kind parts nothing) = several kind parts nothing
root (several kind parts (piece q more)) = several Mixed (several kind parts (piece q more)) nothing
root (several kind parts (several other within more)) =
    several Mixed (several kind parts (several other within more)) nothing

-- a part has bytes above 127 as they are
unfoldable pub has_eight : Tree → Bool
has_eight nothing = false
has_eight (piece p more) = p.eight || has_eight more
has_eight (several kind parts more) = has_eight parts || has_eight more

-- the keys that are left behind these parts: each multipart takes one, before its parts do
unfoldable pub keys_after : Tree → List ℕ → List ℕ
keys_after nothing keys = keys
keys_after (piece p more) keys = keys_after more keys
keys_after (several kind parts more) keys = keys_after more (keys_after parts (keys_left keys))

-- the text of parts in the multipart with this key, or in none, with these keys for the multiparts among them: for each
-- part its boundary line, the part and a line end, and behind the parts of a multipart its closing line
unfoldable pub tree_text : ℕ → Option ℕ → Tree → List ℕ → List ℕ
tree_text run within nothing keys = []
tree_text run within (piece p more) keys =
    lead_by run within ++ (leaf_text p ++ (trail_by within ++ tree_text run within more keys))
tree_text run within (several kind parts more) keys =
    lead_by run within
    ++ (multipart_head run kind (has_eight parts) (first_key keys)
    ++ (tree_text run (Some (first_key keys)) parts (keys_left keys)
    ++ (closing_of run (first_key keys)
    ++ (trail_by within ++ tree_text run within more (keys_after parts (keys_left keys))))))
