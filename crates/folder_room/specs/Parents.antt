-- Directories that are made together.
use Rattle.std.specs.Prelude.{ℕ, ◌&&◌, Bool, List, if◌then◌else◌}
use Rattle.std.specs.List.{list_any}
use Rattle.folder_files.specs.Places.{same_place}
use Rattle.folder_files.specs.Steps.{with_made}
use Rattle.folder_files.specs.Worlds.{WorldMap}
use Rattle.folder_files.specs.declared.place.Place.{Place}
use Rattle.folder_files.specs.declared.place.Place.TheVariants.{Folder}
use Rattle.mh_base.specs.Folders.{is_folder_name}

abbrev pub is_among : List Place → Place → Bool
is_among ps p = list_any (λ q. same_place q p) ps

-- each of these directories is there
abbrev pub with_all_made : WorldMap → List Place → WorldMap
with_all_made w ps =
    record w { directories = λ p. if is_among ps p then with_made (w.directories p) else w.directories p }

-- the folder of this name, where a folder may be called so
abbrev pub is_above : List ℕ → List ℕ → Place → Bool
is_above path name p = same_place (Folder path name) p && is_folder_name name
