-- The nodes of a draft's items with what is given for them.
use Rattle.std.specs.Prelude.{ℕ, List, [], ◌∷◌, ◌++◌, map}
use Rattle.mh_drafts.specs.declared.item.Item.{Item}
use Rattle.mh_drafts.specs.declared.item.Item.TheVariants.{Leaf as leaf_item, Begin as begin_item, End as end_item}
use Rattle.mh_drafts.specs.declared.item.Leaf.TheVariants.{Text as text_leaf, Messages as messages_leaf, File as file_leaf}
use Rattle.mh_drafts.specs.declared.kind.Kind.TheVariants.{Digest}
use Rattle.mhbuild_compose.specs.declared.given.Given.{Given}
use Rattle.mhbuild_compose.specs.declared.given.Given.TheVariants.{File, Messages}
use Rattle.mhbuild_compose.specs.declared.node.Node.{Node}
use Rattle.mhbuild_compose.specs.declared.node.Node.TheVariants.{Leaf as leaf_node, Begin as begin_node, End as end_node}
use Rattle.mhbuild_compose.specs.Pieces.{piece_of, message_label, text_label}

-- the file that is given first
abbrev pub file_in : List Given → List ℕ
file_in [] = []
file_in (File bytes ∷ givens) = bytes
file_in (Messages messages ∷ givens) = []

-- the messages that are given first
abbrev pub messages_in : List Given → List (List ℕ)
messages_in [] = []
messages_in (File bytes ∷ givens) = []
messages_in (Messages messages ∷ givens) = messages

abbrev pub behind_given : List Given → List Given
behind_given [] = []
behind_given (given ∷ givens) = givens

abbrev pub message_leaf : List ℕ → Node
message_leaf message = leaf_node (piece_of message_label message)

-- one message, or a digest of several (RFC 2046, section 5.1.5)
abbrev pub message_nodes : List (List ℕ) → List Node
message_nodes [] = begin_node Digest ∷ end_node ∷ []
message_nodes (message ∷ []) = message_leaf message ∷ []
message_nodes (message ∷ other ∷ more) =
    begin_node Digest ∷ (map message_leaf (message ∷ other ∷ more) ++ end_node ∷ [])

-- the nodes of these items: files and messages take what is given, in order
unfoldable pub nodes_of : List Item → List Given → List Node
nodes_of [] givens = []
nodes_of (begin_item kind ∷ items) givens = begin_node kind ∷ nodes_of items givens
nodes_of (end_item ∷ items) givens = end_node ∷ nodes_of items givens
nodes_of (leaf_item (text_leaf text) ∷ items) givens = leaf_node (piece_of text_label text) ∷ nodes_of items givens
nodes_of (leaf_item (file_leaf label) ∷ items) givens =
    leaf_node (piece_of label (file_in givens)) ∷ nodes_of items (behind_given givens)
nodes_of (leaf_item messages_leaf ∷ items) givens =
    message_nodes (messages_in givens) ++ nodes_of items (behind_given givens)
