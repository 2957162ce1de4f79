-- Where words name messages, for a command that takes none, or one.
use Rattle.std.specs.Prelude.{ℕ, min, List, [], ◌∷◌, Option, None, Some, Result, Ok, Err}
use Rattle.std.specs.List.{flat_map}
use Rattle.mh_base.specs.declared.word.WordWhy.TheVariants.{Extra}
use Rattle.mh_words.specs.declared.item.Item.{Item}
use Rattle.mh_words.specs.declared.item.Item.TheVariants.{Folder, Message, Switch, Component}
use Rattle.mh_words.specs.Whole.{Wrong}

-- the place of the message's name that an item is
abbrev pub place_in : Item → List ℕ
place_in (Folder text place) = []
place_in (Message text place) = place ∷ []
place_in (Switch index value place) = []
place_in (Component name value place) = []

-- the places of all of them
abbrev pub message_places : List Item → List ℕ
message_places items = flat_map place_in items

abbrev pub extra : ℕ → Wrong
extra place = record { place = place; why = Extra }

-- one folder or none, and no message: the earliest word that is too many is refused
abbrev pub alone : Result (Option (List ℕ)) Wrong → Option ℕ → Result (Option (List ℕ)) Wrong
alone (Ok word) None = Ok word
alone (Ok word) (Some place) = Err (extra place)
alone (Err wrong) None = Err wrong
alone (Err wrong) (Some place) = Err (extra (min wrong.place place))
