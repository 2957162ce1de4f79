-- Steps that look leave the world as it is.
use Rattle.std.proofs.Common.{◌≡◌, ℕ, refl, List}
use Rattle.folder_files.specs.Steps.{made}
use Rattle.folder_files.specs.Worlds.{WorldMap}
use Rattle.folder_files.specs.declared.place.Place.{Place}
use Rattle.folder_files.specs.declared.place.FilePath.{FilePath}
use Rattle.folder_files.specs.declared.step.Step.TheVariants as step

pub list_made : (w : WorldMap) (run : ℕ) (p : Place) → w ≡ made w run (step.List p)
unfolding made
list_made w run p = refl

pub read_made : (w : WorldMap) (run : ℕ) (p : Place) (n : List ℕ) (limit : ℕ) → w ≡ made w run (step.Read p n limit)
unfolding made
read_made w run p n limit = refl

pub read_file_made : (w : WorldMap) (run : ℕ) (f : FilePath) (limit : ℕ) → w ≡ made w run (step.ReadFile f limit)
unfolding made
read_file_made w run f limit = refl

pub read_drop_made : (w : WorldMap) (run : ℕ) (f : FilePath) (from most : ℕ) → w ≡ made w run (step.ReadDrop f from most)
unfolding made
read_drop_made w run f from most = refl
