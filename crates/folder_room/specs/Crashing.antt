-- What a crash of a script leaves: what it asks to keep, and no more than that needs.
use Rattle.std.specs.Prelude.{◌≡◌, ◌<◌, ◌==◌, ◌||◌, ℕ, Bool, true, false, List, [], ◌∷◌, length, map, if◌then◌else◌}
use Rattle.folder_files.specs.Directory.{DirectoryMap, kept_lead, IsClosed}
use Rattle.folder_files.specs.Places.{same_place}
use Rattle.folder_files.specs.Worlds.{WorldMap, FileState}
use Rattle.folder_files.specs.declared.place.Place.{Place}
use Rattle.folder_files.specs.declared.world.Change.{Change}
use Rattle.folder_room.specs.declared.script.Keep.{Keep}

abbrev pub has_number : List ℕ → ℕ → Bool
has_number [] i = false
has_number (n ∷ ns) i = (n == i) || has_number ns i

-- which pending changes of a place are asked for, by their places from the oldest, which has 0: of a place that isn't
-- listed, all
abbrev pub asked_at : List Keep → Place → ℕ → Bool
asked_at [] p i = true
asked_at (k ∷ ks) p i = if same_place k.place p then has_number k.changes i else asked_at ks p i

-- each change that is asked for is kept
abbrev pub HasAsked : List Change → (asked keep : ℕ → Bool) → Type 0
HasAsked pending asked keep = (i : ℕ) → i < length pending → asked i ≡ true → keep i ≡ true

-- a closed set that has what is asked for, and nothing that another such set lacks
pub record IsLeastClosed (pending : List Change) (asked keep : ℕ → Bool) : Type 0 where
  pub closed : IsClosed pending keep
  pub has : HasAsked pending asked keep
  pub least : (other : ℕ → Bool) → IsClosed pending other → HasAsked pending asked other → HasAsked pending keep other

-- the directory holds the least closed set of its pending changes that has those that are asked for, and nothing is
-- pending
pub record IsCutDirectory (asked : ℕ → Bool) (old new : DirectoryMap) : Type 0 where
  pub keep : ℕ → Bool
  pub least : IsLeastClosed old.pending asked keep
  pub slots : (x : List ℕ) → new.safe x ≡ kept_lead old.safe old.pending keep x
  pub there : new.there ≡ old.there
  pub nothing_pending : new.pending ≡ []

-- a safe file as it was, and of another each byte replaced
abbrev pub filled : ℕ → FileState → FileState
filled fill file = record { bytes = if file.safe then file.bytes else map (λ b. fill) file.bytes; safe = true }

-- what the crash leaves of a world: directories and files so, outside files as they were, no lock, and these runs ended
-- beside those that had
pub record IsCrashBy (keeps : List Keep) (fill : ℕ) (acted : ℕ → Bool) (old new : WorldMap) : Type 0 where
  pub directories : (p : Place) → IsCutDirectory (asked_at keeps p) (old.directories p) (new.directories p)
  pub files : (f : ℕ) → new.files f ≡ filled fill (old.files f)
  pub next_file : new.next_file ≡ old.next_file
  pub outside : new.outside ≡ old.outside
  pub no_lock : (p : Place) (run : ℕ) → new.holds p run ≡ false
  pub ended : (run : ℕ) → new.ended run ≡ acted run || old.ended run
