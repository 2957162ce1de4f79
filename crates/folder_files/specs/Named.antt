-- Names by their kinds, as the write discipline asks for them.
use Rattle.std.specs.Prelude.{◌++◌, ◌==◌, ◌&&◌, ℕ, Bool, true, false, bytes_eq, List, ◌∷◌, codes}
use Rattle.mh_base.specs.Entries.{kind_of}
use Rattle.mh_base.specs.declared.entry.Entry.{Entry}
use Rattle.mh_base.specs.declared.entry.Entry.TheVariants.{Number, Backup, Held, Temp, Sequences, Other}
use Rattle.folder_files.specs.declared.place.Place.{Place}
use Rattle.folder_files.specs.declared.place.Place.TheVariants.{Home, Work, Mail, Folder}

-- the name of a file that a run is making
abbrev pub is_temp : Entry → Bool
is_temp (Temp r k) = true
is_temp _ = false

abbrev pub is_temp_of : ℕ → Entry → Bool
is_temp_of run (Temp r k) = r == run
is_temp_of run _ = false

-- a message's number
abbrev pub is_number : Entry → Bool
is_number (Number n) = true
is_number _ = false

-- a name under which a run holds a message aside
abbrev pub is_held : Entry → Bool
is_held (Held r n) = true
is_held _ = false

abbrev pub is_held_of : ℕ → Entry → Bool
is_held_of run (Held r n) = r == run
is_held_of run _ = false

abbrev pub is_other : Entry → Bool
is_other Other = true
is_other _ = false

abbrev pub is_hold_of : ℕ → ℕ → Entry → Bool
is_hold_of run n (Held r m) = r == run && m == n
is_hold_of run n _ = false

-- the run's held name of this number
abbrev pub is_taking : ℕ → Entry → Entry → Bool
is_taking run (Number n) held = is_hold_of run n held
is_taking run _ held = false

abbrev pub is_backup_of : ℕ → Entry → Bool
is_backup_of n (Backup m) = m == n
is_backup_of n _ = false

-- the backup name of this number
abbrev pub is_backing_up : Entry → Entry → Bool
is_backing_up (Number n) backup = is_backup_of n backup
is_backing_up _ backup = false

abbrev pub is_sequences : Entry → Bool
is_sequences Sequences = true
is_sequences _ = false

-- a file that is written anew by commits: a folder's sequences, or the context of the mail directory
abbrev pub is_committed : Place → List ℕ → Bool
is_committed Home name = false
is_committed Work name = false
is_committed (Mail path) name = bytes_eq name (codes "context")
is_committed (Folder path folder) name = is_sequences (kind_of name)

abbrev pub is_work : Place → Bool
is_work Home = false
is_work Work = true
is_work (Mail path) = false
is_work (Folder path name) = false

-- a comma, the name, and `.orig`
abbrev pub original_of : List ℕ → List ℕ
original_of name = 44 ∷ name ++ codes ".orig"
