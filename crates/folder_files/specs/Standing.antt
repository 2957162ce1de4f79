-- The names under which messages stand, and the names that are one run's own.
use Rattle.std.specs.Prelude.{◌||◌, ℕ, Bool, List}
use Rattle.mh_base.specs.Entries.{kind_of}
use Rattle.folder_files.specs.Named.{is_temp, is_temp_of, is_number, is_held, is_held_of}

-- a name under which a message stands: a number or a held name
abbrev pub is_standing : List ℕ → Bool
is_standing x = is_number (kind_of x) || is_held (kind_of x)

-- a temporary or held name, of any run
abbrev pub is_own : List ℕ → Bool
is_own x = is_temp (kind_of x) || is_held (kind_of x)

-- a temporary or held name of this run
abbrev pub is_own_of : ℕ → List ℕ → Bool
is_own_of run x = is_temp_of run (kind_of x) || is_held_of run (kind_of x)
