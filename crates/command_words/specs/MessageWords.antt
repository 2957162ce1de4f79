-- The messages' names among words.
use Rattle.std.specs.Prelude.{ℕ, List, [], ◌∷◌}
use Rattle.std.specs.List.{flat_map}
use Rattle.mh_words.specs.declared.item.Item.{Item}
use Rattle.mh_words.specs.declared.item.Item.TheVariants.{Folder, Message, Switch, Component}

-- the message's name that an item is
abbrev pub message_in : Item → List (List ℕ)
message_in (Folder text place) = []
message_in (Message text place) = text ∷ []
message_in (Switch index value place) = []
message_in (Component name value place) = []

-- the messages' names among the items
abbrev pub messages : List Item → List (List ℕ)
messages items = flat_map message_in items

-- the names, or this one where there are none
abbrev pub names_or : List ℕ → List (List ℕ) → List (List ℕ)
names_or default [] = default ∷ []
names_or default (name ∷ names) = name ∷ names
