-- What the result of a reading says.
use Rattle.std.specs.Prelude.{ℕ, List, ◌≡◌, Result, Ok, Err}
use Rattle.mh_base.specs.declared.word.WordWhy.{WordWhy}
use Rattle.mh_words.specs.declared.fault.WordFault.{WordFault}
use Rattle.mh_words.specs.declared.fault.WordFault.TheVariants.{Bad, Memory}
use Rattle.mh_words.specs.declared.item.Item.{Item}
use Rattle.mh_words.specs.declared.item.Words.{Words}
use Rattle.mh_words.specs.declared.table.SwitchTable.{SwitchTable}
use Rattle.mh_words.specs.Readings.{Fails}

-- the fault is what is wrong with these words, or want of memory
abbrev pub IsFault : SwitchTable → List (List ℕ) → WordFault → Type 0
IsFault table words (Bad bad why) = Fails table 0 words bad why
IsFault table words Memory = Unit {0}

-- the result has these items, or there was not enough memory
abbrev pub IsReadAs : List Item → Result Words WordFault → Type 0
IsReadAs items (Ok words) = words.items ≡ items
IsReadAs items (Err (Bad bad why)) = ⊥
IsReadAs items (Err Memory) = Unit {0}

-- the result is this fault at this place, or there was not enough memory
abbrev pub IsRefusedAs : ℕ → WordWhy → Result Words WordFault → Type 0
IsRefusedAs bad why (Ok words) = ⊥
IsRefusedAs bad why (Err (Bad bad' why')) = (bad' ≡ bad) × (why' ≡ why)
IsRefusedAs bad why (Err Memory) = Unit {0}
