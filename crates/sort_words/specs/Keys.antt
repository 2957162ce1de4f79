-- By what messages are put in order.
use Rattle.std.specs.Prelude.{ℕ, ◌==◌, List, [], ◌∷◌, codes, None, Some, if◌then◌else◌}
use Rattle.std.specs.List.{flat_map}
use Rattle.std.specs.Str.{encode_utf8_all}
use Rattle.mh_words.specs.declared.item.Item.{Item}
use Rattle.mh_words.specs.declared.item.Item.TheVariants.{Folder, Message, Switch, Component}
use Rattle.command_words.specs.FieldNames.{is_field_name}
use Rattle.sortm_plans.specs.declared.job.SortKey.{SortKey}
use Rattle.sortm_plans.specs.declared.job.SortKey.TheVariants as key
use Rattle.sort_words.specs.declared.table.TheConstants.{DATEFIELD, TEXTFIELD}
use Rattle.command_words.specs.Switches.{last_behind}

-- the field for dates, or the one for texts, that an item names
abbrev pub key_in : Item → List SortKey
key_in (Folder text place) = []
key_in (Message text place) = []
key_in (Switch index None place) = []
key_in (Switch index (Some value) place) =
    if index == DATEFIELD then key.Date (encode_utf8_all value) ∷ []
    else (if index == TEXTFIELD then key.Text (encode_utf8_all value) ∷ [] else [])
key_in (Component name value place) = []

-- of all that words name the last counts; the field `date` without one
abbrev pub key_of : List Item → SortKey
key_of items = last_behind (key.Date (codes "date")) (flat_map key_in items)

-- the place of a value that is no field's name
abbrev pub wrong_in : Item → List ℕ
wrong_in (Folder text place) = []
wrong_in (Message text place) = []
wrong_in (Switch index None place) = []
wrong_in (Switch index (Some value) place) = if is_field_name value then [] else place ∷ []
wrong_in (Component name value place) = []

-- the places of all of them
abbrev pub wrong_names : List Item → List ℕ
wrong_names items = flat_map wrong_in items
