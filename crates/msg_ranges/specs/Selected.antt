-- What words select, as one value: the selection or the refusal that the relation admits.
use Rattle.std.specs.Prelude.{◌≡◌, ℕ, suc, ◌==◌, Option, Some, None, Result, Ok, Err, List, [], ◌∷◌, filter}
use Rattle.std.specs.List.{list_any}
use Rattle.mh_sequences.specs.declared.run.Run.{Run}
use Rattle.mh_sequences.specs.Runs.{Numbers, numbers_of}
use Rattle.msg_ranges.specs.declared.fault.SelectFault.{SelectFault}
use Rattle.msg_ranges.specs.declared.fault.SelectFault.TheVariants.{BadSpec, Absent, EmptyRange, EmptySequence, Memory}
use Rattle.msg_ranges.specs.declared.spec.Spec.{Spec}
use Rattle.msg_ranges.specs.Forms.{form_of}
use Rattle.msg_ranges.specs.Selecting.{Folder}
use Rattle.msg_ranges.specs.Selection.{chosen}

abbrev pub formed : Folder → ℕ → Option Spec → Result (List ℕ) SelectFault
formed f k None = Err (BadSpec k)
formed f k (Some spec) = chosen k f.numbers f.marks spec

-- what the word at this place comes to
abbrev pub coming : Folder → ℕ → List ℕ → Result (List ℕ) SelectFault
coming f k word = formed f k (form_of f.prefix word)

abbrev pub with_first : Result (List ℕ) SelectFault → Result (List (List ℕ)) SelectFault
    → Result (List (List ℕ)) SelectFault
with_first (Err e) rest = Err e
with_first (Ok xs) (Err e) = Err e
with_first (Ok xs) (Ok sets) = Ok (xs ∷ sets)

-- what each word from this place on designates, or the first refusal
unfoldable pub designated : Folder → ℕ → List (List ℕ) → Result (List (List ℕ)) SelectFault
designated f k [] = Ok []
designated f k (word ∷ words) = with_first (coming f k word) (designated f (suc k) words)

-- all message numbers, as one run
unfoldable pub every_number : List Run
every_number = record { from = 1; to = 999999 } ∷ []

-- those that stand in one of the lists, ascending
abbrev pub united : List (List ℕ) → List ℕ
united sets = filter (λ n. list_any (λ xs. list_any (λ x. x == n) xs) sets) (numbers_of every_number)

abbrev pub all_united : Result (List (List ℕ)) SelectFault → Result (List ℕ) SelectFault
all_united (Ok sets) = Ok (united sets)
all_united (Err e) = Err e

-- the numbers that the words designate, ascending, or the refusal of the first that is refused
abbrev pub selected : Folder → List (List ℕ) → Result (List ℕ) SelectFault
selected f words = all_united (designated f 0 words)

-- the result is this, or there was not enough memory
abbrev pub IsSelected : Result (List ℕ) SelectFault → Result Numbers SelectFault → Type 0
IsSelected value (Ok s) = value ≡ Ok (numbers_of s.runs)
IsSelected value (Err (BadSpec k)) = value ≡ Err (BadSpec k)
IsSelected value (Err (Absent k)) = value ≡ Err (Absent k)
IsSelected value (Err (EmptyRange k)) = value ≡ Err (EmptyRange k)
IsSelected value (Err (EmptySequence k)) = value ≡ Err (EmptySequence k)
IsSelected value (Err Memory) = Unit {0}
