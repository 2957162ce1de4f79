-- Which places, paths and names are the same.
use Rattle.std.specs.Prelude.{◌==◌, ◌&&◌, ℕ, Bool, true, false, not, bytes_eq, List, [], ◌∷◌}
use Rattle.mh_base.specs.Folders.{is_folder_name}
use Rattle.folder_files.specs.declared.place.Place.{Place}
use Rattle.folder_files.specs.declared.place.Place.TheVariants.{Home, Work, Mail, Folder}
use Rattle.folder_files.specs.declared.place.FilePath.{FilePath}

abbrev pub same_place : Place → Place → Bool
same_place Home Home = true
same_place Home Work = false
same_place Home (Mail path) = false
same_place Home (Folder path name) = false
same_place Work Home = false
same_place Work Work = true
same_place Work (Mail path) = false
same_place Work (Folder path name) = false
same_place (Mail path) Home = false
same_place (Mail path) Work = false
same_place (Mail path) (Mail other) = bytes_eq path other
same_place (Mail path) (Folder other name) = false
same_place (Folder path name) Home = false
same_place (Folder path name) Work = false
same_place (Folder path name) (Mail other) = false
same_place (Folder path name) (Folder other name_) = bytes_eq path other && bytes_eq name name_

abbrev pub same_flag : Bool → Bool → Bool
same_flag true b = b
same_flag false b = not b

abbrev pub same_path : FilePath → FilePath → Bool
same_path a b = same_flag a.home b.home && bytes_eq a.text b.text

-- a folder of a mail directory
abbrev pub is_folder : Place → Bool
is_folder Home = false
is_folder Work = false
is_folder (Mail path) = false
is_folder (Folder path name) = true

-- a mail directory
abbrev pub is_mail : Place → Bool
is_mail Home = false
is_mail Work = false
is_mail (Mail path) = true
is_mail (Folder path name) = false

-- the first text, then a slash, then more
abbrev pub continues : List ℕ → List ℕ → Bool
continues [] [] = false
continues [] (c ∷ text) = c == 47
continues (b ∷ name) [] = false
continues (b ∷ name) (c ∷ text) = b == c && continues name text

-- a directory of which the second is a folder, or a folder below that may be called so: these are made with it
abbrev pub is_parent : Place → Place → Bool
is_parent Home p = false
is_parent Work p = false
is_parent (Mail path) Home = false
is_parent (Mail path) Work = false
is_parent (Mail path) (Mail other) = false
is_parent (Mail path) (Folder other name) = bytes_eq path other
is_parent (Folder path name) Home = false
is_parent (Folder path name) Work = false
is_parent (Folder path name) (Mail other) = false
is_parent (Folder path name) (Folder other name_) = bytes_eq path other && continues name name_ && is_folder_name name
