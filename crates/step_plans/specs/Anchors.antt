-- Anchors: how a closed set of changes cannot lose a file.
use Rattle.std.specs.Prelude.{◌≡◌, ◌⊎◌, ℕ, true, false, List, ◌∷◌, Some}
use Rattle.mh_base.specs.Entries.{kind_of}
use Rattle.folder_files.specs.Directory.{Slots, touches, IsUntouched}
use Rattle.folder_files.specs.Named.{is_held}
use Rattle.folder_files.specs.declared.world.Change.{Change}
use Rattle.folder_files.specs.declared.world.Change.TheVariants.{Moved}
use Rattle.folder_files.specs.Standing.{is_standing}

-- the first change that touches x moves it to y, and no later one touches y
pub data IsMovedOn (x y : List ℕ) : List Change → Type 0 where
  here : {cs : List Change} → IsUntouched x cs → IsMovedOn x y (Moved x y ∷ cs)
  on : {c : Change} {cs : List Change} → touches c y ≡ false → IsMovedOn x y cs → IsMovedOn x y (c ∷ cs)

-- a standing name that leads to the file in the safe slots, and its end: the name itself, where no pending change
-- touches it, or else the held name to which the first change that touches it moves it, where no later change touches
-- that
pub record IsAnchor (s : Slots) (cs : List Change) (f : ℕ) (x end : List ℕ) : Type 0 where
  pub standing : is_standing x ≡ true
  pub safe : s x ≡ Some f
  pub way : ((end ≡ x) × IsUntouched x cs) ⊎ ((is_held (kind_of end) ≡ true) × IsMovedOn x end cs)
