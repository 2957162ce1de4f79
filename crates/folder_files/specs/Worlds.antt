-- Worlds as maps, what the lists of the code show of them, and the worlds from which histories start.
use Rattle.std.specs.Prelude.{◌≡◌, ◌+◌, ◌==◌, ◌&&◌, ◌||◌, ℕ, max, Bool, true, false, bytes_eq, List, [], ◌∷◌, reverse, Option, Some, None, if◌then◌else◌}
use Rattle.folder_files.specs.Places.{same_place, same_path}
use Rattle.folder_files.specs.Directory.{Slots, DirectoryMap}
use Rattle.folder_files.specs.declared.place.Place.{Place}
use Rattle.folder_files.specs.declared.place.FilePath.{FilePath}
use Rattle.folder_files.specs.declared.world.Slot.{Slot}
use Rattle.folder_files.specs.declared.world.Directory.{Directory}
use Rattle.folder_files.specs.declared.world.File.{File}
use Rattle.folder_files.specs.declared.world.Held.{Held}
use Rattle.folder_files.specs.declared.world.Outside.{Outside}
use Rattle.folder_files.specs.declared.world.World.{World}

-- a file's bytes, and whether they outlast a crash
pub record FileState : Type 0 where
  pub bytes : List ℕ
  pub safe : Bool

-- directories by place, files by id, the next id, outside files by path, who holds which lock, and the runs that ended
pub record WorldMap : Type 0 where
  pub directories : Place → DirectoryMap
  pub files : ℕ → FileState
  pub next_file : ℕ
  pub outside : FilePath → Option (List ℕ)
  pub holds : Place → ℕ → Bool
  pub ended : ℕ → Bool

abbrev pub slot_of : List Slot → Slots
slot_of [] x = None
slot_of (s ∷ ss) x = if bytes_eq s.name x then Some s.file else slot_of ss x

-- a directory that is not there
abbrev pub no_directory : DirectoryMap
no_directory = record { there = false; safe = λ x. None; pending = [] }

abbrev pub shown_directory : Directory → DirectoryMap
shown_directory d = record { there = true; safe = slot_of d.safe; pending = reverse d.pending }

abbrev pub directory_of : List Directory → Place → DirectoryMap
directory_of [] p = no_directory
directory_of (d ∷ ds) p = if same_place d.place p then shown_directory d else directory_of ds p

abbrev pub file_of : List File → ℕ → FileState
file_of [] f = record { bytes = []; safe = true }
file_of (x ∷ xs) f = if x.id == f then record { bytes = x.bytes; safe = x.safe } else file_of xs f

-- one above the greatest id
abbrev pub next_of : List File → ℕ
next_of [] = 0
next_of (x ∷ xs) = max (x.id + 1) (next_of xs)

abbrev pub outside_of : List Outside → FilePath → Option (List ℕ)
outside_of [] path = None
outside_of (o ∷ os) path = if same_path o.path path then Some o.bytes else outside_of os path

abbrev pub holds_of : List Held → Place → ℕ → Bool
holds_of [] p r = false
holds_of (h ∷ hs) p r = (same_place h.place p && h.run == r) || holds_of hs p r

abbrev pub has_run : List ℕ → ℕ → Bool
has_run [] r = false
has_run (q ∷ qs) r = (q == r) || has_run qs r

-- the maps that a world's lists show
unfoldable pub shown : World → WorldMap
shown w = record {
  directories = directory_of w.directories;
  files = file_of w.files;
  next_file = next_of w.files;
  outside = outside_of w.drops;
  holds = holds_of w.locks;
  ended = has_run w.ended;
}

abbrev pub has_place : Place → List Directory → Bool
has_place p [] = false
has_place p (d ∷ ds) = same_place d.place p || has_place p ds

abbrev pub has_name : List ℕ → List Slot → Bool
has_name x [] = false
has_name x (s ∷ ss) = bytes_eq s.name x || has_name x ss

abbrev pub has_id : ℕ → List File → Bool
has_id f [] = false
has_id f (x ∷ xs) = (x.id == f) || has_id f xs

abbrev pub has_path : FilePath → List Outside → Bool
has_path path [] = false
has_path path (o ∷ os) = same_path o.path path || has_path path os

-- no name twice, and each leads to a listed file
abbrev pub AreSlots : List File → List Slot → Type 0
AreSlots files [] = Unit {0}
AreSlots files (s ∷ ss) = (has_name s.name ss ≡ false) × (has_id s.file files ≡ true) × AreSlots files ss

-- no place twice, nothing pending
abbrev pub AreDirectories : List File → List Directory → Type 0
AreDirectories files [] = Unit {0}
AreDirectories files (d ∷ ds) =
    (has_place d.place ds ≡ false) × (d.pending ≡ []) × AreSlots files d.safe × AreDirectories files ds

-- no id twice, every file safe
abbrev pub AreFiles : List File → Type 0
AreFiles [] = Unit {0}
AreFiles (x ∷ xs) = (has_id x.id xs ≡ false) × (x.safe ≡ true) × AreFiles xs

-- no path twice
abbrev pub AreOutside : List Outside → Type 0
AreOutside [] = Unit {0}
AreOutside (o ∷ os) = (has_path o.path os ≡ false) × AreOutside os

-- a world from which a history may start
pub record IsStart (w : World) : Type 0 where
  pub directories : AreDirectories w.files w.directories
  pub files : AreFiles w.files
  pub outside : AreOutside w.drops
  pub no_lock : w.locks ≡ []
