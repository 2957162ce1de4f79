-- A directory: what its names lead to on the disk, and the changes that are not there yet.
use Rattle.std.specs.Prelude.{◌≡◌, ℕ, Bool, true, false, ◌||◌, bytes_eq, List, [], ◌∷◌, length, Option, Some, None, if◌then◌else◌}
use Rattle.folder_files.specs.declared.world.Change.{Change}
use Rattle.folder_files.specs.declared.world.Change.TheVariants.{Set, Gone, Moved}

-- where each name leads
abbrev pub Slots : Type 0
Slots = List ℕ → Option ℕ

-- whether the directory is there, its safe slots, and its pending changes, the newest first
pub record DirectoryMap : Type 0 where
  pub there : Bool
  pub safe : Slots
  pub pending : List Change

-- a change touches the names that it says
abbrev pub touches : Change → List ℕ → Bool
touches (Set n f) x = bytes_eq n x
touches (Gone n) x = bytes_eq n x
touches (Moved a b) x = bytes_eq a x || bytes_eq b x

abbrev pub after_change : Change → Slots → Slots
after_change (Set n f) s x = if bytes_eq n x then Some f else s x
after_change (Gone n) s x = if bytes_eq n x then None else s x
after_change (Moved a b) s x = if bytes_eq b x then s a else (if bytes_eq a x then None else s x)

-- what a name leads to after all changes, the newest first
abbrev pub lead : Slots → List Change → Slots
lead s [] x = s x
lead s (c ∷ cs) x = after_change c (lead s cs) x

-- the same after those changes alone that are kept, by their places from the oldest, which has 0
abbrev pub kept_lead : Slots → List Change → (ℕ → Bool) → Slots
kept_lead s [] keep x = s x
kept_lead s (c ∷ cs) keep x = if keep (length cs) then after_change c (kept_lead s cs keep) x else kept_lead s cs keep x

-- no change touches the name
abbrev pub IsUntouched : List ℕ → List Change → Type 0
IsUntouched x [] = Unit {0}
IsUntouched x (c ∷ cs) = (touches c x ≡ false) × IsUntouched x cs

-- what a name leads to now
abbrev pub now_in : DirectoryMap → Slots
now_in d x = lead d.safe d.pending x

-- each change that touches x is kept
abbrev pub AllKept : List ℕ → List Change → (ℕ → Bool) → Type 0
AllKept x [] keep = Unit {0}
AllKept x (c ∷ cs) keep = (touches c x ≡ true → keep (length cs) ≡ true) × AllKept x cs keep

-- with each kept change every earlier one that touches one of its names is kept
abbrev pub IsClosed : List Change → (ℕ → Bool) → Type 0
IsClosed [] keep = Unit {0}
IsClosed (c ∷ cs) keep =
    (keep (length cs) ≡ true → (x : List ℕ) → touches c x ≡ true → AllKept x cs keep) × IsClosed cs keep
