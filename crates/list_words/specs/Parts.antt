-- The parts that words name.
use Rattle.std.specs.Prelude.{ℕ, List, [], ◌∷◌, Option, None, Some}
use Rattle.std.specs.List.{flat_map}
use Rattle.mh_words.specs.declared.item.Item.{Item}
use Rattle.mh_words.specs.declared.item.Item.TheVariants.{Folder, Message, Switch, Component}
use Rattle.mime_tree.specs.Paths.{path_of}

abbrev pub if_some : Option (List ℕ) → List (List ℕ)
if_some None = []
if_some (Some path) = path ∷ []

-- the path that the value of an item is
abbrev pub parts_in : Item → List (List ℕ)
parts_in (Folder text place) = []
parts_in (Message text place) = []
parts_in (Switch index None place) = []
parts_in (Switch index (Some value) place) = if_some (path_of value)
parts_in (Component name value place) = []

-- those of all items, in their order
abbrev pub parts_of : List Item → List (List ℕ)
parts_of items = flat_map parts_in items

abbrev pub if_none : ℕ → Option (List ℕ) → List ℕ
if_none place None = place ∷ []
if_none place (Some path) = []

-- the place of a value that is no path
abbrev pub wrong_in : Item → List ℕ
wrong_in (Folder text place) = []
wrong_in (Message text place) = []
wrong_in (Switch index None place) = []
wrong_in (Switch index (Some value) place) = if_none place (path_of value)
wrong_in (Component name value place) = []

-- the places of all of them
abbrev pub wrong_parts : List Item → List ℕ
wrong_parts items = flat_map wrong_in items
