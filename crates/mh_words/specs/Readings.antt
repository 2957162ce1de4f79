-- How the words of a command line are read.
use Rattle.std.specs.Prelude.{ℕ, List, [], ◌∷◌, ◌+◌, Some, None}
use Rattle.mh_base.specs.declared.word.WordWhy.{WordWhy}
use Rattle.mh_base.specs.declared.word.WordWhy.TheVariants.{Unknown, Ambiguous, NoValue}
use Rattle.mh_words.specs.declared.table.Kind.TheVariants.{Flag, Value}
use Rattle.mh_words.specs.declared.table.SwitchTable.{SwitchTable}
use Rattle.mh_words.specs.declared.item.Item.{Item}
use Rattle.mh_words.specs.declared.item.Item.TheVariants.{Folder, Message, Switch, Component}
use Rattle.mh_words.specs.Forms.{IsFolder, IsMessage, IsLoneDash, IsSwitchWord, IsComponent}
use Rattle.mh_words.specs.Switches.{IsSwitch, IsUnknown, IsAmbiguous}

-- the first of these words, which has this place, is this item, alone or with the next word as its value;
-- these words are left, of which the first has this next place
pub data Takes (table : SwitchTable) (place : ℕ) : List (List ℕ) → Item → List (List ℕ) → ℕ → Type 0 where
  takes_folder : {word : List ℕ} {left : List (List ℕ)} → IsFolder word
      → Takes table place (word ∷ left) (Folder word place) left (place + 1)
  takes_message : {word : List ℕ} {left : List (List ℕ)} → IsMessage word
      → Takes table place (word ∷ left) (Message word place) left (place + 1)
  takes_flag : {word name : List ℕ} {index : ℕ} {left : List (List ℕ)} → IsSwitchWord table.components word name
      → IsSwitch table.switches name index Flag
      → Takes table place (word ∷ left) (Switch index None place) left (place + 1)
  takes_value : {word name value : List ℕ} {index : ℕ} {left : List (List ℕ)} → IsSwitchWord table.components word name
      → IsSwitch table.switches name index Value
      → Takes table place (word ∷ value ∷ left) (Switch index (Some value) place) left (place + 2)
  takes_component : {word name value : List ℕ} {left : List (List ℕ)} → IsComponent table.components word name
      → Takes table place (word ∷ value ∷ left) (Component name value place) left (place + 2)

-- the first of these words is wrong, for this reason
pub data IsWrong (table : SwitchTable) : List (List ℕ) → WordWhy → Type 0 where
  is_lone_dash : {word : List ℕ} {left : List (List ℕ)} → IsLoneDash word → IsWrong table (word ∷ left) Unknown
  is_unknown : {word name : List ℕ} {left : List (List ℕ)} → IsSwitchWord table.components word name
      → IsUnknown table.switches name → IsWrong table (word ∷ left) Unknown
  is_ambiguous : {word name : List ℕ} {left : List (List ℕ)} → IsSwitchWord table.components word name
      → IsAmbiguous table.switches name → IsWrong table (word ∷ left) Ambiguous
  lacks_value : {word name : List ℕ} {index : ℕ} → IsSwitchWord table.components word name
      → IsSwitch table.switches name index Value → IsWrong table (word ∷ []) NoValue
  lacks_component_value : {word name : List ℕ} → IsComponent table.components word name
      → IsWrong table (word ∷ []) NoValue

-- these words, of which the first has this place, are read as these items
pub data Reads (table : SwitchTable) : ℕ → List (List ℕ) → List Item → Type 0 where
  reads_none : {place : ℕ} → Reads table place [] []
  reads_next : {place after : ℕ} {words left : List (List ℕ)} {item : Item} {items : List Item}
      → Takes table place words item left after → Reads table after left items
      → Reads table place words (item ∷ items)

-- of these words, of which the first has this place, the earliest wrong one has this place and this reason
pub data Fails (table : SwitchTable) : ℕ → List (List ℕ) → ℕ → WordWhy → Type 0 where
  fails_first : {place : ℕ} {words : List (List ℕ)} {why : WordWhy} → IsWrong table words why
      → Fails table place words place why
  fails_later : {place after bad : ℕ} {words left : List (List ℕ)} {item : Item} {why : WordWhy}
      → Takes table place words item left after → Fails table after left bad why
      → Fails table place words bad why
