-- Where a directory stands in a list, and what a change at one place does to all.
use Rattle.std.specs.Prelude.{◌≡◌, ◌≢◌, ◌==◌, ◌+◌, Bool, true, false, ℕ, zero, suc, List, [], ◌∷◌, if◌then◌else◌}
use Rattle.folder_files.specs.Directory.{DirectoryMap}
use Rattle.folder_files.specs.Places.{same_place}
use Rattle.folder_files.specs.declared.place.Place.{Place}
use Rattle.folder_files.specs.Steps.{changed, synced}
use Rattle.folder_files.specs.Worlds.{WorldMap}
use Rattle.folder_files.specs.declared.world.Change.{Change}
use Rattle.folder_files.specs.declared.world.Change.TheVariants.{Set}
use Rattle.folder_files.specs.declared.world.Directory.{Directory}

-- the first directories, so many, are of other places
abbrev pub Skips : List Directory → ℕ → Place → Type 0
Skips [] i p = Unit {0}
Skips (d ∷ ds) zero p = Unit {0}
Skips (d ∷ ds) (suc i) p = (d.place ≢ p) × Skips ds i p

-- the directory at this index is of this place
abbrev pub IsOf : List Directory → ℕ → Place → Type 0
IsOf [] i p = ⊥
IsOf (d ∷ ds) zero p = d.place ≡ p
IsOf (d ∷ ds) (suc i) p = IsOf ds i p

-- the directory at one place is changed
abbrev pub changed_at : Place → (DirectoryMap → DirectoryMap) → (Place → DirectoryMap) → Place → DirectoryMap
changed_at q change ds p = if same_place q p then change (ds p) else ds p

-- one more change of a directory that is there
abbrev pub changed_there : Change → DirectoryMap → DirectoryMap
changed_there c d = if d.there then changed d c else d

abbrev pub with_change : WorldMap → Place → Change → WorldMap
with_change w q c = record w { directories = changed_at q (changed_there c) w.directories }

abbrev pub synced_there : DirectoryMap → DirectoryMap
synced_there d = if d.there then synced d else d

abbrev pub with_sync : WorldMap → Place → WorldMap
with_sync w q = record w { directories = changed_at q synced_there w.directories }

-- a new file, which is not safe
abbrev pub with_file : WorldMap → List ℕ → WorldMap
with_file w b =
    record w {
      files = λ f. if w.next_file == f then record { bytes = b; safe = false }
          else w.files f;
      next_file = w.next_file + 1;
    }

-- to which this name leads
abbrev pub with_new : WorldMap → Place → List ℕ → List ℕ → WorldMap
with_new w q n b = with_change (with_file w b) q (Set n w.next_file)

-- the first items, so many, fail the test
abbrev pub SkipsBy : {A : Type 0} → (A → Bool) → List A → ℕ → Type 0
SkipsBy t [] i = Unit {0}
SkipsBy t (x ∷ xs) zero = Unit {0}
SkipsBy t (x ∷ xs) (suc i) = (t x ≡ false) × SkipsBy t xs i

-- the item at this index passes it
abbrev pub IsAtBy : {A : Type 0} → (A → Bool) → List A → ℕ → Type 0
IsAtBy t [] i = ⊥
IsAtBy t (x ∷ xs) zero = t x ≡ true
IsAtBy t (x ∷ xs) (suc i) = IsAtBy t xs i
