-- What a list of words selects, and which word is refused.
use Rattle.std.specs.Prelude.{◌≡◌, ℕ, suc, ◌==◌, ◌⊎◌, Some, Result, Ok, Err, List, [], ◌∷◌, take, slice_get}
use Rattle.std.specs.List.{list_any}
use Rattle.mh_sequences.specs.declared.run.Run.{Run}
use Rattle.mh_sequences.specs.Runs.{has}
use Rattle.mh_sequences.specs.Sequences.{Marked}
use Rattle.msg_ranges.specs.declared.fault.SelectFault.{SelectFault}
use Rattle.msg_ranges.specs.declared.fault.SelectFault.TheVariants.{BadSpec, Absent, EmptyRange, EmptySequence, Memory}
use Rattle.msg_ranges.specs.declared.spec.Spec.{Spec}
use Rattle.msg_ranges.specs.Words.{Reads}
use Rattle.msg_ranges.specs.Selection.{Marks, marks_of, chosen}

-- the word has none of the forms
abbrev pub IsBad : List ℕ → List ℕ → Type 0
IsBad prefix word = (spec : Spec) → Reads prefix word spec → ⊥

-- a folder as words see it: the prefix of negation, the numbers of the messages, ascending, and the sequences
pub record Folder : Type 0 where
  pub prefix : List ℕ
  pub numbers : List ℕ
  pub marks : Marks

abbrev pub folder_of : List ℕ → List ℕ → Marked → Folder
folder_of prefix numbers marked = record { prefix = prefix; numbers = numbers; marks = marks_of marked }

-- the word at this place comes to this: what its form designates, or a refusal
abbrev pub ComesTo : Folder → ℕ → List ℕ → Result (List ℕ) SelectFault → Type 0
ComesTo f k word result =
    ((spec : Spec) × Reads f.prefix word spec × (chosen k f.numbers f.marks spec ≡ result))
    ⊎ (IsBad f.prefix word × (result ≡ Err (BadSpec k)))

-- each word from this place on designates the numbers beside it
abbrev pub AllDesignate : Folder → ℕ → List (List ℕ) → List (List ℕ) → Type 0
AllDesignate f k [] [] = Unit {0}
AllDesignate f k [] (xs ∷ sets) = ⊥
AllDesignate f k (word ∷ words) [] = ⊥
AllDesignate f k (word ∷ words) (xs ∷ sets) = ComesTo f k word (Ok xs) × AllDesignate f (suc k) words sets

-- these runs have just the numbers that the words designate
pub record IsSelection (f : Folder) (words : List (List ℕ)) (runs : List Run) : Type 0 where
  pub sets : List (List ℕ)
  pub each : AllDesignate f 0 words sets
  pub union : (n : ℕ) → has runs n ≡ list_any (λ xs. list_any (λ x. x == n) xs) sets

-- the word at this place is the first that is refused, and this is why
pub record IsFirstRefused (f : Folder) (words : List (List ℕ)) (k : ℕ) (fault : SelectFault) : Type 0 where
  pub sets : List (List ℕ)
  pub before : AllDesignate f 0 (take k words) sets
  pub word : List ℕ
  pub at : slice_get words k ≡ Some word
  pub refused : ComesTo f k word (Err fault)

-- a refusal names the first word that is refused; nothing is said of want of memory
abbrev pub IsRefusal : Folder → List (List ℕ) → SelectFault → Type 0
IsRefusal f words (BadSpec k) = IsFirstRefused f words k (BadSpec k)
IsRefusal f words (Absent k) = IsFirstRefused f words k (Absent k)
IsRefusal f words (EmptyRange k) = IsFirstRefused f words k (EmptyRange k)
IsRefusal f words (EmptySequence k) = IsFirstRefused f words k (EmptySequence k)
IsRefusal f words Memory = Unit {0}
