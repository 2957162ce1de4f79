-- Values of the switches of `anno` that are wrong.
use Rattle.std.specs.Prelude.{ℕ, ◌==◌, not, Bool, false, List, [], ◌∷◌, None, Some, if◌then◌else◌}
use Rattle.std.specs.List.{flat_map}
use Rattle.std.specs.Str.{encode_utf8_all}
use Rattle.mh_words.specs.declared.item.Item.{Item}
use Rattle.mh_words.specs.declared.item.Item.TheVariants.{Folder, Message, Switch, Component}
use Rattle.annotation_lines.specs.Lines.{is_on_a_line}
use Rattle.command_words.specs.FieldNames.{is_field_name}
use Rattle.anno_words.specs.declared.table.TheConstants.{COMPONENT, TEXT}

-- a component is a field's name, and a text stands on one line
abbrev pub is_wrong : ℕ → List ℕ → Bool
is_wrong index value =
    if index == COMPONENT then not (is_field_name value)
    else (if index == TEXT then not (is_on_a_line (encode_utf8_all value)) else false)

-- the place of a wrong value
abbrev pub wrong_in : Item → List ℕ
wrong_in (Folder text place) = []
wrong_in (Message text place) = []
wrong_in (Switch index None place) = []
wrong_in (Switch index (Some value) place) = if is_wrong index value then place ∷ [] else []
wrong_in (Component name value place) = []

-- the places of all of them
abbrev pub wrong_values : List Item → List ℕ
wrong_values items = flat_map wrong_in items
