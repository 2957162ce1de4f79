-- The changes that a closed set needs beside those that are asked for.
use Rattle.std.specs.Prelude.{◌||◌, ◌==◌, ◌++◌, ℕ, Bool, true, false, List, [], ◌∷◌, length, map, if◌then◌else◌}
use Rattle.std.specs.List.{list_any}
use Rattle.folder_files.specs.Directory.{touches}
use Rattle.folder_files.specs.declared.world.Change.{Change}
use Rattle.folder_files.specs.declared.world.File.{File}
use Rattle.folder_room.specs.Crashing.{has_number}
use Rattle.folder_room.specs.declared.images.Asked.{Asked}
use Rattle.folder_room.specs.declared.images.Asked.TheVariants.{All, These}
use Rattle.folder_files.specs.declared.world.Change.TheVariants.{Set, Gone, Moved}

-- the names that a change touches
abbrev pub names_of : Change → List (List ℕ)
names_of (Set n f) = n ∷ []
names_of (Gone n) = n ∷ []
names_of (Moved a b) = a ∷ (b ∷ [])

-- the change touches one of these names
abbrev pub touches_any : Change → List (List ℕ) → Bool
touches_any c names = list_any (touches c) names

-- whether the newest of these changes is kept, where later ones that are kept touch these names
abbrev pub is_kept : Change → List Change → (ℕ → Bool) → List (List ℕ) → Bool
is_kept c older asked names = asked (length older) || touches_any c names

-- the names that are touched by then
abbrev pub touched_by : Bool → Change → List (List ℕ) → List (List ℕ)
touched_by kept c names = if kept then names ++ names_of c else names

-- which changes are kept, the newest first
abbrev pub kept_set : List Change → (ℕ → Bool) → List (List ℕ) → ℕ → Bool
kept_set [] asked names i = false
kept_set (c ∷ older) asked names i =
    if length older == i then is_kept c older asked names
    else kept_set older asked (touched_by (is_kept c older asked names) c names) i

-- the places that are asked for
abbrev pub asked_of : Asked → ℕ → Bool
asked_of All i = true
asked_of (These numbers) i = has_number numbers.now i

-- a file as a crash leaves it
abbrev pub filled_file : ℕ → File → File
filled_file fill x = record { id = x.id; bytes = if x.safe then x.bytes else map (λ b. fill) x.bytes; safe = true }
