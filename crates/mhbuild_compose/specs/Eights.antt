-- Which multiparts have bytes above 127 as they are.
use Rattle.std.specs.Prelude.{Bool, false, ◌||◌, List, [], ◌∷◌}
use Rattle.mhbuild_compose.specs.declared.node.Node.{Node}
use Rattle.mhbuild_compose.specs.declared.node.Node.TheVariants.{Leaf, Begin, End}

abbrev pub top : List Bool → Bool
top [] = false
top (eight ∷ more) = eight

abbrev pub below : List Bool → List Bool
below [] = []
below (eight ∷ more) = more

-- what is known before a node, by what is behind it: a leaf belongs to the innermost multipart, and so does a multipart
-- that begins, with its parts
abbrev pub eights_with : Node → List Bool → List Bool
eights_with (Leaf piece) behind = (piece.eight || top behind) ∷ below behind
eights_with (Begin kind) behind = (top behind || top (below behind)) ∷ below (below behind)
eights_with End behind = false ∷ behind

-- of each multipart that is open before these nodes, the innermost first, whether a part that is left of it has bytes
-- above 127 as they are
unfoldable pub eights_of : List Node → List Bool
eights_of [] = []
eights_of (node ∷ nodes) = eights_with node (eights_of nodes)

abbrev pub flags_with : Node → List Bool → List Bool → List Bool
flags_with (Leaf piece) behind flags = flags
flags_with (Begin kind) behind flags = top behind ∷ flags
flags_with End behind flags = flags

-- of each multipart that begins among these nodes, in order, whether one of its parts has such bytes
unfoldable pub flags_of : List Node → List Bool
flags_of [] = []
flags_of (node ∷ nodes) = flags_with node (eights_of nodes) (flags_of nodes)
