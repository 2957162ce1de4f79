-- Which switches are among the items of words, by their index in the command's table.
use Rattle.std.specs.Prelude.{ℕ, ◌-◌, ◌==◌, Bool, true, false, length, slice_get, List, [], ◌∷◌, Option, None, Some, if◌then◌else◌}
use Rattle.std.specs.List.{flat_map, list_any}
use Rattle.mh_words.specs.declared.item.Item.{Item}
use Rattle.mh_words.specs.declared.item.Item.TheVariants.{Folder, Message, Switch, Component}

-- of two opposed switches, whether the item is the one or the other
abbrev pub choice_in : ℕ → ℕ → Item → List Bool
choice_in on off (Folder text place) = []
choice_in on off (Message text place) = []
choice_in on off (Switch index value place) =
    if index == on then true ∷ [] else (if index == off then false ∷ [] else [])
choice_in on off (Component name value place) = []

-- the last of these, or what was before where there are none
abbrev pub last_or : Option Bool → List Bool → Option Bool
last_or before [] = before
last_or before (choice ∷ choices) = last_or (Some choice) choices

-- of two opposed switches, whether the last that is given is the one; nothing where neither is given
abbrev pub last_choice : ℕ → ℕ → List Item → Option Bool
last_choice on off items = last_or None (flat_map (choice_in on off) items)

abbrev pub is_switch : ℕ → Item → Bool
is_switch at (Folder text place) = false
is_switch at (Message text place) = false
is_switch at (Switch index value place) = index == at
is_switch at (Component name value place) = false

-- the switch is given
abbrev pub is_given : ℕ → List Item → Bool
is_given at items = list_any (is_switch at) items

-- the value of the switch, where the item is that switch
abbrev pub value_in : ℕ → Item → List (List ℕ)
value_in at (Folder text place) = []
value_in at (Message text place) = []
value_in at (Switch index None place) = []
value_in at (Switch index (Some value) place) = if index == at then value ∷ [] else []
value_in at (Component name value place) = []

-- all values of the switch, in their order
abbrev pub values : ℕ → List Item → List (List ℕ)
values at items = flat_map (value_in at) items

-- the last of these
abbrev pub last_of : List (List ℕ) → Option (List ℕ)
last_of values = slice_get values (length values - 1)

-- the last of these, or what was before where there are none
abbrev pub last_behind : {A : Type 0} → A → List A → A
last_behind before [] = before
last_behind before (x ∷ xs) = last_behind x xs
