-- What each step makes of a world, and which answers it has there.
use Rattle.std.specs.Prelude.{◌≡◌, ◌≢◌, ◌+◌, ◌==◌, ◌&&◌, ◌||◌, ℕ, Bool, true, false, not, nat_lt, bytes_eq, List, [], ◌∷◌, length, take, drop, is_none, is_some, Option, Some, None, if◌then◌else◌}
use Rattle.std.specs.Ordering.{nat_cmp}
use Rattle.std.specs.Cmp.Lexicographic.{slice_cmp}
use Rattle.std.specs.declared.cmp.Ordering.TheVariants.{Less}
use Rattle.folder_files.specs.Places.{same_place, same_path, is_parent}
use Rattle.folder_files.specs.Directory.{DirectoryMap, now_in}
use Rattle.folder_files.specs.Worlds.{FileState, WorldMap}
use Rattle.folder_files.specs.declared.place.Place.{Place}
use Rattle.folder_files.specs.declared.place.FilePath.{FilePath}
use Rattle.folder_files.specs.declared.world.Change.{Change}
use Rattle.folder_files.specs.declared.world.Change.TheVariants as change
use Rattle.folder_files.specs.declared.step.Step.{Step}
use Rattle.folder_files.specs.declared.step.Step.TheVariants as step
use Rattle.folder_files.specs.declared.step.Answer.{Answer}
use Rattle.folder_files.specs.declared.step.Answer.TheVariants.{Done, Names, Content, Piece, Long, Gone, Exists, Busy, Grown}
use Rattle.folder_files.specs.declared.event.After.{After}
use Rattle.folder_files.specs.declared.event.After.TheVariants.{Before, Made, Torn}

-- one more change, the newest
abbrev pub changed : DirectoryMap → Change → DirectoryMap
changed d c = record { there = d.there; safe = d.safe; pending = c ∷ d.pending }

-- the change, where the name leads to a file
abbrev pub changed_if : DirectoryMap → Change → Option ℕ → DirectoryMap
changed_if d c (Some f) = changed d c
changed_if d c None = d

abbrev pub is_created : DirectoryMap → List ℕ → Bool
is_created d n = d.there && is_none (now_in d n)

-- the name leads to the new file f, where the directory is there and the name is free
abbrev pub with_created : DirectoryMap → List ℕ → ℕ → DirectoryMap
with_created d n f = if is_created d n then changed d (change.Set n f) else d

abbrev pub linked : DirectoryMap → List ℕ → Option ℕ → Option ℕ → DirectoryMap
linked d b (Some f) None = changed d (change.Set b f)
linked d b (Some f) (Some g) = d
linked d b None old = d

-- b leads to a's file too, where a is there and b is free
abbrev pub with_linked : DirectoryMap → List ℕ → List ℕ → DirectoryMap
with_linked d a b = linked d b (now_in d a) (now_in d b)

-- b leads to a's file and a is gone; a name that is renamed to itself stays
abbrev pub with_renamed : DirectoryMap → List ℕ → List ℕ → DirectoryMap
with_renamed d a b = if bytes_eq a b then d else changed_if d (change.Moved a b) (now_in d a)

abbrev pub with_unlinked : DirectoryMap → List ℕ → DirectoryMap
with_unlinked d a = changed_if d (change.Gone a) (now_in d a)

-- all changes so far are safe
abbrev pub synced : DirectoryMap → DirectoryMap
synced d = record { there = d.there; safe = now_in d; pending = [] }

abbrev pub with_made : DirectoryMap → DirectoryMap
with_made d = record { there = true; safe = d.safe; pending = d.pending }

abbrev pub directory_after : WorldMap → Step → Place → DirectoryMap
directory_after w (step.MakeFolder q) p =
    if same_place q p || is_parent p q then with_made (w.directories p) else w.directories p
directory_after w (step.Create q n b) p =
    if same_place q p then with_created (w.directories p) n w.next_file else w.directories p
directory_after w (step.SyncFolder q) p = if same_place q p then synced (w.directories p) else w.directories p
directory_after w (step.Link q a b) p = if same_place q p then with_linked (w.directories p) a b else w.directories p
directory_after w (step.Rename q a b) p = if same_place q p then with_renamed (w.directories p) a b else w.directories p
directory_after w (step.Unlink q a) p = if same_place q p then with_unlinked (w.directories p) a else w.directories p
directory_after w s p = w.directories p

abbrev pub is_led : Option ℕ → ℕ → Bool
is_led (Some f) g = f == g
is_led None g = false

abbrev pub file_after : WorldMap → Step → ℕ → FileState
file_after w (step.Create q n b) f =
    if is_created (w.directories q) n && w.next_file == f then record { bytes = b; safe = false } else w.files f
file_after w (step.SyncFile q n) f =
    if is_led (now_in (w.directories q) n) f then record { bytes = (w.files f).bytes; safe = true } else w.files f
file_after w s f = w.files f

abbrev pub next_after : WorldMap → Step → ℕ
next_after w (step.Create q n b) = if is_created (w.directories q) n then w.next_file + 1 else w.next_file
next_after w s = w.next_file

-- nothing, where the bytes have this length
abbrev pub cut_at : ℕ → Option (List ℕ) → Option (List ℕ)
cut_at n None = None
cut_at n (Some bytes) = if length bytes == n then Some [] else Some bytes

abbrev pub outside_after : WorldMap → Step → FilePath → Option (List ℕ)
outside_after w (step.CutDrop path length_) f = if same_path path f then cut_at length_ (w.outside f) else w.outside f
outside_after w s f = w.outside f

-- the locks after this run's step: a Lock takes it where the directory is there, an Unlock lets this run's own fall
abbrev pub holds_after : WorldMap → ℕ → Step → Place → ℕ → Bool
holds_after w run (step.Lock q) p r = ((w.directories q).there && same_place q p && run == r) || w.holds p r
holds_after w run (step.Unlock q) p r = not (same_place q p && run == r) && w.holds p r
holds_after w run s p r = w.holds p r

-- the world after this run's step
unfoldable pub made : WorldMap → ℕ → Step → WorldMap
made w run s = record {
  directories = directory_after w s;
  files = file_after w s;
  next_file = next_after w s;
  outside = outside_after w s;
  holds = holds_after w run s;
  ended = w.ended;
}

-- the names that lead to a file, in byte order
abbrev pub IsAscending : List (List ℕ) → Type 0
IsAscending [] = Unit {0}
IsAscending (a ∷ []) = Unit {0}
IsAscending (a ∷ (b ∷ names)) = (slice_cmp nat_cmp a b ≡ Less) × IsAscending (b ∷ names)

abbrev pub has_text : List ℕ → List (List ℕ) → Bool
has_text x [] = false
has_text x (n ∷ ns) = bytes_eq n x || has_text x ns

pub record IsListing (d : DirectoryMap) (names : List (List ℕ)) : Type 0 where
  pub ascending : IsAscending names
  pub all : (x : List ℕ) → has_text x names ≡ is_some (now_in d x)

-- the bytes where they are at most so many, else their length
abbrev pub reading_of : ℕ → List ℕ → Answer
reading_of limit bytes = if nat_lt limit (length bytes) then Long (length bytes) else Content bytes

abbrev pub read_answer : WorldMap → ℕ → Option ℕ → Answer
read_answer w limit None = Gone
read_answer w limit (Some f) = reading_of limit (w.files f).bytes

abbrev pub read_file_answer : ℕ → Option (List ℕ) → Answer
read_file_answer limit None = Gone
read_file_answer limit (Some bytes) = reading_of limit bytes

abbrev pub piece_answer : ℕ → ℕ → Option (List ℕ) → Answer
piece_answer from most None = Gone
piece_answer from most (Some bytes) = Piece (take most (drop from bytes)) (length bytes)

abbrev pub cut_answer : ℕ → Option (List ℕ) → Answer
cut_answer n None = Gone
cut_answer n (Some bytes) = if length bytes == n then Done else Grown

abbrev pub create_answer : DirectoryMap → List ℕ → Answer
create_answer d n = if d.there then (if is_none (now_in d n) then Done else Exists) else Gone

abbrev pub link_answer : Option ℕ → Option ℕ → Answer
link_answer None b = Gone
link_answer (Some f) None = Done
link_answer (Some f) (Some g) = Exists

abbrev pub there_answer : Bool → Answer
there_answer there = if there then Done else Gone

abbrev pub name_answer : Option ℕ → Answer
name_answer None = Gone
name_answer (Some f) = Done

-- the names, or no such directory
abbrev pub IsListed : DirectoryMap → Answer → Type 0
IsListed d (Names names) = (d.there ≡ true) × IsListing d names
IsListed d Gone = d.there ≡ false
IsListed d other = ⊥

-- the lock is had, though another run may hold it too; it is busy only where another run holds it
abbrev pub IsLocked : WorldMap → ℕ → Place → Answer → Type 0
IsLocked w run p Done = (w.directories p).there ≡ true
IsLocked w run p Gone = (w.directories p).there ≡ false
IsLocked w run p Busy = ((w.directories p).there ≡ true) × ((other : ℕ) × (other ≢ run) × (w.holds p other ≡ true))
IsLocked w run p other = ⊥

-- the answers of a step that does not fail
abbrev pub Fits : WorldMap → ℕ → Step → Answer → Type 0
Fits w run (step.List p) a = IsListed (w.directories p) a
Fits w run (step.Read p n limit) a = a ≡ read_answer w limit (now_in (w.directories p) n)
Fits w run (step.MakeFolder p) a = a ≡ (if (w.directories p).there then Exists else Done)
Fits w run (step.Create p n b) a = a ≡ create_answer (w.directories p) n
Fits w run (step.SyncFile p n) a = a ≡ name_answer (now_in (w.directories p) n)
Fits w run (step.SyncFolder p) a = a ≡ there_answer (w.directories p).there
Fits w run (step.Link p n m) a = a ≡ link_answer (now_in (w.directories p) n) (now_in (w.directories p) m)
Fits w run (step.Rename p n m) a = a ≡ name_answer (now_in (w.directories p) n)
Fits w run (step.Unlink p n) a = a ≡ name_answer (now_in (w.directories p) n)
Fits w run (step.Lock p) a = IsLocked w run p a
Fits w run (step.Unlock p) a = a ≡ Done
Fits w run (step.ReadFile path limit) a = a ≡ read_file_answer limit (w.outside path)
Fits w run (step.ReadDrop path from most) a = a ≡ piece_answer from most (w.outside path)
Fits w run (step.CutDrop path n) a = a ≡ cut_answer n (w.outside path)

-- a lock that is busy is not taken
abbrev pub made_by : WorldMap → ℕ → Step → Answer → WorldMap
made_by w run s Busy = w
made_by w run s other = made w run s

-- a Create of other bytes
abbrev pub torn : Step → List ℕ → Step
torn (step.Create p n c) b = step.Create p n b
torn s b = s

-- a step that was not made: but this run's lock falls at an Unlock
abbrev pub unmade : WorldMap → ℕ → Step → WorldMap
unmade w run (step.Unlock p) = made w run (step.Unlock p)
unmade w run s = w

-- what a step leaves
abbrev pub left_by : WorldMap → ℕ → Step → Answer → After → WorldMap
left_by w run s a Before = unmade w run s
left_by w run s a Made = made_by w run s a
left_by w run s a (Torn b) = made w run (torn s b)

-- what a failed step may leave: a Create may leave a file of other bytes
abbrev pub MayLeave : Step → After → Type 0
MayLeave s Before = Unit {0}
MayLeave s Made = Unit {0}
MayLeave (step.Create p n c) (Torn b) = Unit {0}
MayLeave s (Torn b) = ⊥
