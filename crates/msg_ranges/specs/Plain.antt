-- Answers as lists of numbers.
use Rattle.std.specs.Prelude.{◌≡◌, ℕ, Result, Ok, Err, List}
use Rattle.msg_ranges.specs.declared.fault.SelectFault.{SelectFault}
use Rattle.msg_ranges.specs.Choosing.{IsMeant}

-- what was meant for the word at this place was answered, or memory was wanting
abbrev pub GivesList : ℕ → Result (List ℕ) SelectFault → Result (List ℕ) SelectFault → Type 0
GivesList k meant (Ok xs) = meant ≡ Ok xs
GivesList k meant (Err e) = IsMeant k meant e
