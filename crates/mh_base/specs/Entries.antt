-- The kinds of directory entries and their names.
use Rattle.std.specs.Prelude.{◌≡◌, ◌≢◌, ℕ, ◌<◌, ◌^◌, ◌==◌, bytes_eq, Option, Some, None, List, [], ◌∷◌, ◌++◌, take, drop, decimal, codes, if◌then◌else◌}
use Rattle.mh_base.specs.Numbers.{IsMsgNum, hex, decimal_of, run_of, number_of}
use Rattle.mh_base.specs.declared.entry.Entry.{Entry}
use Rattle.mh_base.specs.declared.entry.Entry.TheVariants.{Number, Backup, Held, Temp, Sequences, LockFile, Other}

-- the parts of a kind are within their ranges
abbrev pub IsRanged : Entry → Type 0
IsRanged (Number n) = IsMsgNum n
IsRanged (Backup n) = IsMsgNum n
IsRanged (Held run n) = (run < 2 ^ 128) × IsMsgNum n
IsRanged (Temp run k) = (run < 2 ^ 128) × (k < 2 ^ 64)
IsRanged Sequences = Unit {0}
IsRanged LockFile = Unit {0}
IsRanged Other = Unit {0}

-- a kind with a name, within the ranges of its parts
abbrev pub IsEntry : Entry → Type 0
IsEntry Other = ⊥
IsEntry e = IsRanged e

-- the name of a kind
unfoldable pub entry_text : Entry → List ℕ
entry_text (Number n) = decimal n
entry_text (Backup n) = 44 ∷ decimal n
entry_text (Held run n) = codes ".mh_held_" ++ hex 32 run ++ 95 ∷ decimal n
entry_text (Temp run k) = codes ".mh_temp_" ++ hex 32 run ++ 95 ∷ decimal k
entry_text Sequences = codes ".mh_sequences"
entry_text LockFile = codes ".mh_lock"
entry_text Other = []

-- a name is of this kind: it is the kind's name, or no kind's
abbrev pub IsKind : List ℕ → Entry → Type 0
IsKind name Other = (e : Entry) → IsEntry e → name ≢ entry_text e
IsKind name (Number n) = IsEntry (Number n) × (name ≡ entry_text (Number n))
IsKind name (Backup n) = IsEntry (Backup n) × (name ≡ entry_text (Backup n))
IsKind name (Held run n) = IsEntry (Held run n) × (name ≡ entry_text (Held run n))
IsKind name (Temp run k) = IsEntry (Temp run k) × (name ≡ entry_text (Temp run k))
IsKind name Sequences = name ≡ entry_text Sequences
IsKind name LockFile = name ≡ entry_text LockFile

-- the same as a function of the name, which computes
abbrev pub number_by : (ℕ → Entry) → Option ℕ → Entry
number_by make None = Other
number_by make (Some n) = make n

abbrev pub number_in : List ℕ → Entry
number_in bytes = number_by Number (number_of bytes)

abbrev pub backup_in : List ℕ → Entry
backup_in rest = number_by Backup (number_of rest)

abbrev pub held_after : ℕ → List ℕ → Entry
held_after run [] = Other
held_after run (c ∷ number) = if c == 95 then number_by (Held run) (number_of number) else Other

abbrev pub held_by : Option ℕ → List ℕ → Entry
held_by None tail = Other
held_by (Some run) tail = held_after run tail

abbrev pub held_in : List ℕ → Entry
held_in rest = held_by (run_of (take 32 rest)) (drop 32 rest)

abbrev pub temp_after : ℕ → List ℕ → Entry
temp_after run [] = Other
temp_after run (c ∷ count) = if c == 95 then number_by (Temp run) (decimal_of count) else Other

abbrev pub temp_by : Option ℕ → List ℕ → Entry
temp_by None tail = Other
temp_by (Some run) tail = temp_after run tail

abbrev pub temp_in : List ℕ → Entry
temp_in rest = temp_by (run_of (take 32 rest)) (drop 32 rest)

abbrev pub hidden_in : List ℕ → Entry
hidden_in rest =
    if bytes_eq rest (codes "mh_sequences") then Sequences
    else (if bytes_eq rest (codes "mh_lock") then LockFile
    else (if bytes_eq (take 8 rest) (codes "mh_held_") then held_in (drop 8 rest)
    else (if bytes_eq (take 8 rest) (codes "mh_temp_") then temp_in (drop 8 rest)
    else Other)))

unfoldable pub kind_of : List ℕ → Entry
kind_of [] = Other
kind_of (c ∷ rest) = if c == 44 then backup_in rest else (if c == 46 then hidden_in rest else number_in (c ∷ rest))
