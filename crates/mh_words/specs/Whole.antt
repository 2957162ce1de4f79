-- What the words of a command line are read as: the one value that the relation of their reading admits.
use Rattle.std.specs.Prelude.{◌≡◌, ℕ, ◌+◌, ◌==◌, ◌&&◌, nat_eq, bytes_eq, List, [], ◌∷◌, Some, None, Result, Ok, Err, if◌then◌else◌}
use Rattle.std.specs.List.{starts_with}
use Rattle.mh_base.specs.declared.word.WordWhy.{WordWhy}
use Rattle.mh_base.specs.declared.word.WordWhy.TheVariants.{Unknown, Ambiguous, NoValue}
use Rattle.mh_words.specs.declared.fault.WordFault.{WordFault}
use Rattle.mh_words.specs.declared.fault.WordFault.TheVariants.{Bad, Memory}
use Rattle.mh_words.specs.declared.item.Item.{Item}
use Rattle.mh_words.specs.declared.item.Item.TheVariants.{Folder, Message, Switch, Component}
use Rattle.mh_words.specs.declared.item.Words.{Words}
use Rattle.mh_words.specs.declared.lookup.Found.{Found}
use Rattle.mh_words.specs.declared.lookup.Found.TheVariants.{Nothing, One, Several}
use Rattle.mh_words.specs.declared.table.Kind.TheVariants.{Flag, Value}
use Rattle.mh_words.specs.declared.table.Switch.{Switch as SwitchType}
use Rattle.mh_words.specs.declared.table.SwitchTable.{SwitchTable}
use Rattle.mh_words.specs.Lookups.{one_more}

-- the word at this place is wrong, for this reason
pub record Wrong : Type 0 where
  pub place : ℕ
  pub why : WordWhy

-- the switch of this full name among those from this index on, or else what was found before and those whose names
-- begin with the text
unfoldable pub found_from : List SwitchType → List ℕ → ℕ → Found → Found
found_from [] text i found = found
found_from (s ∷ ss) text i found =
    if bytes_eq s.name text then One i s.kind
    else found_from ss text (i + 1) (if starts_with nat_eq s.name text then one_more found i s.kind else found)

-- what the first word is: an item by itself, an item with the next word as its value, or wrong
pub data FirstWord : Type 0 where
  Alone : (item : Item) → FirstWord
  Valued : (item : List ℕ → Item) → FirstWord
  IsBad : (why : WordWhy) → FirstWord

abbrev pub named : Found → ℕ → FirstWord
named Nothing place = IsBad Unknown
named (One index Flag) place = Alone (Switch index None place)
named (One index Value) place = Valued (λ value. Switch index (Some value) place)
named Several place = IsBad Ambiguous

-- behind a dash: 45 is a second one
abbrev pub dashed : SwitchTable → ℕ → List ℕ → FirstWord
dashed table place [] = IsBad Unknown
dashed table place (c ∷ name) =
    if table.components && (c == 45) then Valued (λ value. Component name value place)
    else named (found_from table.switches (c ∷ name) 0 Nothing) place

-- by its first character: 43 is a plus sign
abbrev pub first_word : SwitchTable → ℕ → List ℕ → FirstWord
first_word table place [] = Alone (Message [] place)
first_word table place (c ∷ rest) =
    if c == 43 then Alone (Folder (c ∷ rest) place)
    else (if c == 45 then dashed table place rest else Alone (Message (c ∷ rest) place))

abbrev pub before : Item → Result (List Item) Wrong → Result (List Item) Wrong
before item (Ok items) = Ok (item ∷ items)
before item (Err wrong) = Err wrong

-- the last word
abbrev pub last_read : FirstWord → ℕ → Result (List Item) Wrong
last_read (Alone item) place = Ok (item ∷ [])
last_read (Valued item) place = Err (record { place = place; why = NoValue })
last_read (IsBad why) place = Err (record { place = place; why = why })

-- a word before another, with what is read behind the one and behind both
abbrev pub next_read : FirstWord → ℕ → List ℕ → Result (List Item) Wrong → Result (List Item) Wrong
    → Result (List Item) Wrong
next_read (Alone item) place value behind_one behind_both = before item behind_one
next_read (Valued item) place value behind_one behind_both = before (item value) behind_both
next_read (IsBad why) place value behind_one behind_both = Err (record { place = place; why = why })

-- the items of these words, of which the first has this place, or the earliest wrong word
unfoldable pub read_in : SwitchTable → ℕ → List (List ℕ) → Result (List Item) Wrong
read_in table place [] = Ok []
read_in table place (word ∷ []) = last_read (first_word table place word) place
read_in table place (word ∷ (next ∷ left)) =
    next_read (first_word table place word) place next (read_in table (place + 1) (next ∷ left))
    (read_in table (place + 2) left)

-- the result is this, or there was not enough memory
abbrev pub IsWhole : Result (List Item) Wrong → Result Words WordFault → Type 0
IsWhole read (Ok words) = read ≡ Ok words.items
IsWhole read (Err (Bad place why)) = read ≡ Err (record { place = place; why = why })
IsWhole read (Err Memory) = Unit {0}
