-- What the pieces of an outside file give.
use Rattle.std.specs.Prelude.{ℕ, List, Option, Some, None}
use Rattle.folder_files.specs.Careful.{HasPieces}
use Rattle.folder_files.specs.Deeds.{Deed}
use Rattle.folder_files.specs.declared.place.FilePath.{FilePath}

-- the bytes, or no bytes where the pieces are none or have a gap
abbrev pub GivesPieces : FilePath → List Deed → Option (List ℕ) → Type 0
GivesPieces f own None = (bytes : List ℕ) → HasPieces f bytes own → ⊥
GivesPieces f own (Some bytes) = HasPieces f bytes own
