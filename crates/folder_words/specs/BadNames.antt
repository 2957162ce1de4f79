-- Words of `pick` that have no header field's name where one is wanted.
use Rattle.std.specs.Prelude.{ℕ, ◌==◌, ◌&&◌, not, List, [], ◌∷◌, None, Some, if◌then◌else◌}
use Rattle.std.specs.List.{flat_map}
use Rattle.mh_words.specs.declared.item.Item.{Item}
use Rattle.mh_words.specs.declared.item.Item.TheVariants.{Folder, Message, Switch, Component}
use Rattle.command_words.specs.FieldNames.{is_field_name}
use Rattle.folder_words.specs.declared.table.TheConstants.{PICK_DATEFIELD}

-- the place of a component, or of the field for dates, that has no such name
abbrev pub bad_name_in : Item → List ℕ
bad_name_in (Folder text place) = []
bad_name_in (Message text place) = []
bad_name_in (Switch index None place) = []
bad_name_in (Switch index (Some value) place) =
    if index == PICK_DATEFIELD && not (is_field_name value) then place ∷ [] else []
bad_name_in (Component name value place) = if is_field_name name then [] else place ∷ []

-- the places of all of them
abbrev pub bad_names : List Item → List ℕ
bad_names items = flat_map bad_name_in items
