-- What the values of the switches of `mhstore` say, and which of them are wrong.
use Rattle.std.specs.Prelude.{ℕ, ◌==◌, ◌||◌, not, Bool, false, bytes_eq, codes, is_none, List, [], ◌∷◌, Option, None, Some, if◌then◌else◌}
use Rattle.std.specs.List.{flat_map}
use Rattle.std.specs.Str.{encode_utf8_all}
use Rattle.mh_words.specs.declared.item.Item.{Item}
use Rattle.mh_words.specs.declared.item.Item.TheVariants.{Folder, Message, Switch, Component}
use Rattle.mime_tree.specs.Paths.{path_of}
use Rattle.command_words.specs.Switches.{last_of, values}
use Rattle.list_words.specs.Parts.{if_some}
use Rattle.store_words.specs.declared.table.TheConstants.{CLOBBER, PART}

-- the path that a part's value is
abbrev pub path_by : ℕ → List ℕ → Option (List ℕ)
path_by index value = if index == PART then path_of value else None

abbrev pub parts_in : Item → List (List ℕ)
parts_in (Folder text place) = []
parts_in (Message text place) = []
parts_in (Switch index None place) = []
parts_in (Switch index (Some value) place) = if_some (path_by index value)
parts_in (Component name value place) = []

-- the parts that items name, in their order
abbrev pub parts_of : List Item → List (List ℕ)
parts_of items = flat_map parts_in items

abbrev pub is_always : List ℕ → Bool
is_always word = bytes_eq (encode_utf8_all word) (codes "always")

-- the words that may stand behind `-clobber`
abbrev pub is_choice : List ℕ → Bool
is_choice word = is_always word || bytes_eq (encode_utf8_all word) (codes "never")

abbrev pub by_word : Option (List ℕ) → Bool
by_word None = false
by_word (Some word) = is_always word

-- files that stand are replaced where the last `-clobber` says so
abbrev pub clobbers : List Item → Bool
clobbers items = by_word (last_of (values CLOBBER items))

-- a part is a path, and behind `-clobber` stands one of its words
abbrev pub is_wrong : ℕ → List ℕ → Bool
is_wrong index value =
    if index == PART then is_none (path_of value) else (if index == CLOBBER then not (is_choice value) else false)

-- the place of a wrong value
abbrev pub wrong_in : Item → List ℕ
wrong_in (Folder text place) = []
wrong_in (Message text place) = []
wrong_in (Switch index None place) = []
wrong_in (Switch index (Some value) place) = if is_wrong index value then place ∷ [] else []
wrong_in (Component name value place) = []

-- the places of all of them
abbrev pub wrong_values : List Item → List ℕ
wrong_values items = flat_map wrong_in items
