-- What the items of a reading are.
use Rattle.std.specs.Prelude.{ℕ, List, Some, None, IsTrue}
use Rattle.mh_words.specs.declared.item.Item.{Item}
use Rattle.mh_words.specs.declared.item.Item.TheVariants.{Folder, Message, Switch, Component}
use Rattle.mh_words.specs.declared.table.Kind.{Kind}
use Rattle.mh_words.specs.declared.table.Kind.TheVariants.{Flag, Value}
use Rattle.mh_words.specs.declared.table.Switch.{Switch as SwitchType}
use Rattle.mh_words.specs.declared.table.SwitchTable.{SwitchTable}
use Rattle.mh_words.specs.Forms.{IsFolder, IsMessage}
use Rattle.mh_words.specs.Switches.{IsAt}

-- the table has a switch of this kind at this index
abbrev pub HasKind : List SwitchType → ℕ → Kind → Type 0
HasKind switches index kind = (name : List ℕ) × IsAt switches index (record { name = name; kind = kind })

-- the item is of its form, and of this table: a switch is there and has a value just where its kind takes one,
-- and a component stands only where the table allows components
abbrev pub IsItemOf : SwitchTable → Item → Type 0
IsItemOf table (Folder text place) = IsFolder text
IsItemOf table (Message text place) = IsMessage text
IsItemOf table (Switch index None place) = HasKind table.switches index Flag
IsItemOf table (Switch index (Some value) place) = HasKind table.switches index Value
IsItemOf table (Component name value place) = IsTrue table.components
