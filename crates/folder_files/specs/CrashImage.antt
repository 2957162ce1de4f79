-- What a crash may leave of a world.
use Rattle.std.specs.Prelude.{◌≡◌, ◌<◌, ◌||◌, ℕ, Bool, true, false, List, []}
use Rattle.folder_files.specs.Directory.{DirectoryMap, kept_lead, IsClosed}
use Rattle.folder_files.specs.Worlds.{WorldMap}
use Rattle.folder_files.specs.declared.place.Place.{Place}

-- the directory holds a closed set of its pending changes, in their order, and nothing is pending
pub record IsDirectoryImage (old new : DirectoryMap) : Type 0 where
  pub keep : ℕ → Bool
  pub closed : IsClosed old.pending keep
  pub slots : (x : List ℕ) → new.safe x ≡ kept_lead old.safe old.pending keep x
  pub there : new.there ≡ old.there
  pub nothing_pending : new.pending ≡ []

-- each directory by itself; safe files with their bytes, others with any; no lock; and all runs that acted have ended
pub record IsCrashImage (old new : WorldMap) (acted : ℕ → Bool) : Type 0 where
  pub directories : (p : Place) → IsDirectoryImage (old.directories p) (new.directories p)
  pub kept_bytes : (f : ℕ) → (old.files f).safe ≡ true → (new.files f).bytes ≡ (old.files f).bytes
  pub all_safe : (f : ℕ) → f < old.next_file → (new.files f).safe ≡ true
  pub next_file : new.next_file ≡ old.next_file
  pub outside : new.outside ≡ old.outside
  pub no_lock : (p : Place) (run : ℕ) → new.holds p run ≡ false
  pub ended : (run : ℕ) → (acted run || old.ended run) ≡ true → new.ended run ≡ true
