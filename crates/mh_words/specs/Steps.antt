-- One step of the reading.
use Rattle.std.specs.Prelude.{ℕ, List, [], ◌∷◌, ◌+◌, ◌≡◌, Result, Ok, Err, drop}
use Rattle.mh_base.specs.declared.word.WordWhy.TheVariants.{NoValue}
use Rattle.mh_words.specs.declared.fault.WordFault.{WordFault}
use Rattle.mh_words.specs.declared.fault.WordFault.TheVariants.{Bad, Memory}
use Rattle.mh_words.specs.declared.item.Item.{Item}
use Rattle.mh_words.specs.declared.reading.Taken.{Taken}
use Rattle.mh_words.specs.declared.table.SwitchTable.{SwitchTable}
use Rattle.mh_words.specs.Forms.{IsSwitchWord, IsComponent}
use Rattle.mh_words.specs.Lines.{IsWordAt}
use Rattle.mh_words.specs.Outcomes.{IsFault}
use Rattle.mh_words.specs.Readings.{Takes, IsWrong, Reads}

-- the value of the word at this place is the next word; where there is none the word is at fault
abbrev pub IsValueAfter : List (List ℕ) → ℕ → Result (List ℕ) WordFault → Type 0
IsValueAfter words place (Ok value) = drop (place + 1) words ≡ value ∷ drop (place + 2) words
IsValueAfter words place (Err (Bad bad why)) = (bad ≡ place) × (why ≡ NoValue) × (drop (place + 1) words ≡ [])
IsValueAfter words place (Err Memory) = Unit {0}

-- the word at this place, with its value if it has one, is the item, and reading goes on at the next place;
-- or the word is wrong
abbrev pub IsStep : SwitchTable → List (List ℕ) → ℕ → Result Taken WordFault → Type 0
IsStep table words place (Ok taken) = Takes table place (drop place words) taken.item (drop taken.next words) taken.next
IsStep table words place (Err (Bad bad why)) = (bad ≡ place) × IsWrong table (drop place words) why
IsStep table words place (Err Memory) = Unit {0}

-- whatever switch word of this name stands at the place, this is its step
abbrev pub IsSwitchStep : SwitchTable → List (List ℕ) → ℕ → List ℕ → Result Taken WordFault → Type 0
IsSwitchStep table words place name result =
    (word : List ℕ) → IsWordAt words place word → IsSwitchWord table.components word name
    → IsStep table words place result

-- whatever component of this name stands at the place, this is its step, in each table that allows components
abbrev pub IsComponentStep : List (List ℕ) → ℕ → List ℕ → Result Taken WordFault → Type 0
IsComponentStep words place name result =
    (table : SwitchTable) (word : List ℕ) → IsWordAt words place word → IsComponent table.components word name
    → IsStep table words place result

-- these are the items of the words, or what is wrong with them
abbrev pub IsReading : SwitchTable → List (List ℕ) → Result (List Item) WordFault → Type 0
IsReading table words (Ok items) = Reads table 0 words items
IsReading table words (Err fault) = IsFault table words fault
