-- What words say of the lines of messages.
use Rattle.std.specs.Prelude.{ℕ, ◌==◌, List, [], ◌∷◌, Option, None, Some, if◌then◌else◌}
use Rattle.std.specs.List.{flat_map}
use Rattle.std.specs.Str.{encode_utf8_all}
use Rattle.mh_words.specs.declared.item.Item.{Item}
use Rattle.mh_words.specs.declared.item.Item.TheVariants.{Folder, Message, Switch, Component}
use Rattle.look_words.specs.Columns.{columns_in}
use Rattle.look_words.specs.declared.look.FormatWords.{FormatWords}
use Rattle.look_words.specs.declared.look.FormatWords.TheVariants.{Default, File, Word}
use Rattle.look_words.specs.declared.look.LookWords.{LookWords}
use Rattle.look_words.specs.declared.table.TheConstants.{FORM, FORMAT, WIDTH}
use Rattle.command_words.specs.Switches.{last_behind}

abbrev pub listed : Option ℕ → List ℕ
listed None = []
listed (Some n) = n ∷ []

-- the width that a switch names
abbrev pub width_in : Item → List ℕ
width_in (Folder text place) = []
width_in (Message text place) = []
width_in (Switch index None place) = []
width_in (Switch index (Some value) place) = if index == WIDTH then listed (columns_in (encode_utf8_all value)) else []
width_in (Component name value place) = []

-- the format that a switch names, or its file
abbrev pub format_in : Item → List FormatWords
format_in (Folder text place) = []
format_in (Message text place) = []
format_in (Switch index None place) = []
format_in (Switch index (Some value) place) =
    if index == FORMAT then Word value ∷ [] else (if index == FORM then File value ∷ [] else [])
format_in (Component name value place) = []

-- of all formats, files of formats and widths that words name the last counts; 80 columns without one
abbrev pub look_of : List Item → LookWords
look_of items =
    record { format = last_behind Default (flat_map format_in items); width = last_behind 80 (flat_map width_in items) }

abbrev pub if_none : ℕ → Option ℕ → List ℕ
if_none place None = place ∷ []
if_none place (Some n) = []

-- the place of a width that is none
abbrev pub wrong_width_in : Item → List ℕ
wrong_width_in (Folder text place) = []
wrong_width_in (Message text place) = []
wrong_width_in (Switch index None place) = []
wrong_width_in (Switch index (Some value) place) =
    if index == WIDTH then if_none place (columns_in (encode_utf8_all value)) else []
wrong_width_in (Component name value place) = []

-- the places of all of them
abbrev pub wrong_widths : List Item → List ℕ
wrong_widths items = flat_map wrong_width_in items
