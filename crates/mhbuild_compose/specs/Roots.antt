-- The root of a message.
use Rattle.std.specs.Prelude.{ℕ, ◌+◌, ◌-◌, ◌==◌, nat_le, List, [], ◌∷◌, ◌++◌, if◌then◌else◌}
use Rattle.mh_drafts.specs.declared.item.Item.{Item}
use Rattle.mh_drafts.specs.declared.item.Item.TheVariants.{Leaf as leaf_item, Begin as begin_item, End as end_item}
use Rattle.mh_drafts.specs.declared.kind.Kind.TheVariants.{Mixed}
use Rattle.mhbuild_compose.specs.declared.given.Given.{Given}
use Rattle.mhbuild_compose.specs.declared.node.Node.{Node}
use Rattle.mhbuild_compose.specs.declared.node.Node.TheVariants.{Leaf as leaf_node, Begin as begin_node, End as end_node}
use Rattle.mhbuild_compose.specs.Nodes.{nodes_of}
use Rattle.mhbuild_compose.specs.Pieces.{piece_of, text_label}

-- how many multiparts are open behind an item
abbrev pub depth_behind : ℕ → Item → ℕ
depth_behind depth (leaf_item leaf) = depth
depth_behind depth (begin_item kind) = depth + 1
depth_behind depth end_item = depth - 1

-- one where a part begins that is in no other; else none
abbrev pub is_top : ℕ → Item → ℕ
is_top depth (leaf_item leaf) = if depth == 0 then 1 else 0
is_top depth (begin_item kind) = if depth == 0 then 1 else 0
is_top depth end_item = 0

-- how many parts are in no other, where so many multiparts are open
unfoldable pub tops : ℕ → List Item → ℕ
tops depth [] = 0
tops depth (item ∷ items) = is_top depth item + tops (depth_behind depth item) items

-- what stands before the nodes of so many parts: an empty text where there is none, and the begin of a multipart where
-- there are several
abbrev pub root_front : ℕ → List Node
root_front count =
    if count == 0 then leaf_node (piece_of text_label []) ∷ [] else (if count == 1 then [] else begin_node Mixed ∷ [])

-- what stands behind them
abbrev pub root_back : ℕ → List Node
root_back count = if nat_le count 1 then [] else end_node ∷ []

-- one part is the root itself; several are the parts of a multipart
abbrev pub all_nodes : List Item → List Given → List Node
all_nodes items givens = root_front (tops 0 items) ++ (nodes_of items givens ++ root_back (tops 0 items))
