-- What was answered for a word.
use Rattle.std.specs.Prelude.{◌≡◌, ℕ, Result, Ok, Err, List, []}
use Rattle.mh_sequences.specs.Runs.{Numbers, numbers_of}
use Rattle.msg_ranges.specs.declared.fault.SelectFault.{SelectFault}
use Rattle.msg_ranges.specs.declared.fault.SelectFault.TheVariants.{BadSpec, Absent, EmptyRange, EmptySequence, Memory}
use Rattle.msg_ranges.specs.Selecting.{Folder, ComesTo}
use Rattle.msg_ranges.specs.Selection.{some_or}

-- the refusal that was meant, or want of memory
abbrev pub IsMeant : ℕ → Result (List ℕ) SelectFault → SelectFault → Type 0
IsMeant k meant (BadSpec j) = (j ≡ k) × (meant ≡ Err (BadSpec j))
IsMeant k meant (Absent j) = (j ≡ k) × (meant ≡ Err (Absent j))
IsMeant k meant (EmptyRange j) = (j ≡ k) × (meant ≡ Err (EmptyRange j))
IsMeant k meant (EmptySequence j) = (j ≡ k) × (meant ≡ Err (EmptySequence j))
IsMeant k meant Memory = Unit {0}

-- what was meant for the word at this place was answered, or memory was wanting
abbrev pub Gives : ℕ → Result (List ℕ) SelectFault → Result Numbers SelectFault → Type 0
Gives k meant (Ok s) = meant ≡ Ok (numbers_of s.runs)
Gives k meant (Err e) = IsMeant k meant e

-- the set was answered, or this refusal where it is empty
abbrev pub GivesSome : SelectFault → Numbers → Result Numbers SelectFault → Type 0
GivesSome fault set (Ok s) = (s ≡ set) × (some_or fault (numbers_of set.runs) ≡ Ok (numbers_of set.runs))
GivesSome fault set (Err e) = (e ≡ fault) × (numbers_of set.runs ≡ [])

-- what the word at this place comes to was answered, or memory was wanting
abbrev pub IsComing : Folder → ℕ → List ℕ → SelectFault → Type 0
IsComing f k word (BadSpec j) = (j ≡ k) × ComesTo f k word (Err (BadSpec j))
IsComing f k word (Absent j) = (j ≡ k) × ComesTo f k word (Err (Absent j))
IsComing f k word (EmptyRange j) = (j ≡ k) × ComesTo f k word (Err (EmptyRange j))
IsComing f k word (EmptySequence j) = (j ≡ k) × ComesTo f k word (Err (EmptySequence j))
IsComing f k word Memory = Unit {0}

abbrev pub GivesWord : Folder → ℕ → List ℕ → Result Numbers SelectFault → Type 0
GivesWord f k word (Ok s) = ComesTo f k word (Ok (numbers_of s.runs))
GivesWord f k word (Err e) = IsComing f k word e
