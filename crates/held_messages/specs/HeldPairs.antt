-- What is held aside in a folder, and the folder after it is put back. Nothing here knows of steps.
use Rattle.std.specs.Prelude.{◌≡◌, ◌&&◌, ◌||◌, ◌==◌, ◌+◌, ◌^◌, ℕ, zero, suc, Bool, true, false, not, max, nat_lt, List, [], ◌∷◌, Option, Some, None, is_some, option_map, if◌then◌else◌}
use Rattle.mh_base.specs.Entries.{entry_text, kind_of}
use Rattle.mh_base.specs.declared.entry.Entry.{Entry}
use Rattle.mh_base.specs.declared.entry.Entry.TheVariants.{Held}
use Rattle.folder_files.specs.Places.{same_place}
use Rattle.folder_files.specs.declared.place.Place.{Place}
use Rattle.file_plans.specs.Mailboxes.{Folder, Mailbox}
use Rattle.held_messages.specs.declared.held.HeldPair.{HeldPair}

-- the name that it has then
abbrev pub held_name : HeldPair → List ℕ
held_name h = entry_text (Held h.run h.number)

abbrev pub is_pair : ℕ → ℕ → HeldPair → Bool
is_pair run n h = (h.run == run) && (h.number == n)

abbrev pub has_pair : ℕ → ℕ → List HeldPair → Bool
has_pair run n [] = false
has_pair run n (h ∷ hs) = is_pair run n h || has_pair run n hs

-- by number, then by run
abbrev pub is_before : HeldPair → HeldPair → Bool
is_before a b = nat_lt a.number b.number || ((a.number == b.number) && nat_lt a.run b.run)

abbrev pub AreInOrder : List HeldPair → Type 0
AreInOrder [] = Unit {0}
AreInOrder (a ∷ []) = Unit {0}
AreInOrder (a ∷ (b ∷ hs)) = (is_before a b ≡ true) × AreInOrder (b ∷ hs)

-- all that a folder holds aside, in order, but for what this run holds itself; a run has at most 128 bits
pub record AreHeld (own : ℕ) (f : Folder) (hs : List HeldPair) : Type 0 where
  pub in_order : AreInOrder hs
  pub all : (run n : ℕ) → has_pair run n hs ≡ not (run == own) && (nat_lt run (2 ^ 128) && is_some (f.held run n))

-- where a held message goes alone: to its number where that is free, else to one above the highest number, and where
-- that is too high it stays
abbrev pub home_of : Bool → ℕ → ℕ → Option ℕ
home_of taken top n = if taken then (if nat_lt top 999999 then Some (top + 1) else None) else Some n

-- the highest number then; where one stays, that is the last number of all
abbrev pub top_after : Option ℕ → ℕ → ℕ
top_after None top = 999999
top_after (Some m) top = max m top

abbrev pub is_end : ℕ → Option ℕ → Bool
is_end k None = false
is_end k (Some m) = m == k

-- where each goes, one after another, by which numbers have a message and which is the highest of them
unfoldable pub homes : (ℕ → Bool) → ℕ → List HeldPair → List (Option ℕ)
homes taken top [] = []
homes taken top (h ∷ hs) =
    home_of (taken h.number) top h.number
    ∷ homes (λ k. is_end k (home_of (taken h.number) top h.number) || taken k)
    (top_after (home_of (taken h.number) top h.number) top) hs

-- the held message stands at this number, and is no longer held
abbrev pub given_home : HeldPair → ℕ → Folder → Folder
given_home h m f = record {
  messages = λ k. if m == k then f.held h.run h.number else f.messages k;
  removed = f.removed;
  held = λ run n. if is_pair run n h then None else f.held run n;
  sequences = f.sequences;
}

-- the folder after settling: each held message goes where it goes
unfoldable pub settled : Folder → List HeldPair → List (Option ℕ) → Folder
settled f [] ends = f
settled f (h ∷ hs) [] = f
settled f (h ∷ hs) (None ∷ ends) = settled f hs ends
settled f (h ∷ hs) (Some m ∷ ends) = settled (given_home h m f) hs ends

-- the numbers at which held messages stood, in order
unfoldable pub numbers_in : List (Option ℕ) → List ℕ → List ℕ
numbers_in [] later = later
numbers_in (None ∷ ends) later = numbers_in ends later
numbers_in (Some m ∷ ends) later = m ∷ numbers_in ends later

-- the mailbox with another folder in this one's place
abbrev pub with_folder_changed : Mailbox → Place → (Folder → Folder) → Mailbox
with_folder_changed m p g = record {
  folders = λ q. if same_place p q then option_map g (m.folders q) else m.folders q;
  home = m.home;
  work = m.work;
  context = m.context;
  outside = m.outside;
}

-- the pair among others in order; once where it is there already
unfoldable pub inserted : HeldPair → List HeldPair → List HeldPair
inserted h [] = h ∷ []
inserted h (k ∷ ks) = if is_before h k then h ∷ (k ∷ ks) else (if is_before k h then k ∷ inserted h ks else k ∷ ks)

-- the pairs of a listing, in order, but for those of this run
abbrev pub with_kind : ℕ → Entry → List HeldPair → List HeldPair
with_kind own (Held run n) hs = if run == own then hs else inserted (record { run = run; number = n }) hs
with_kind own kind hs = hs

unfoldable pub held_pairs : ℕ → List (List ℕ) → List HeldPair
held_pairs own [] = []
held_pairs own (x ∷ names) = with_kind own (kind_of x) (held_pairs own names)

-- a held message stood at this number
unfoldable pub is_in_ends : ℕ → List (Option ℕ) → Bool
is_in_ends k [] = false
is_in_ends k (end ∷ ends) = is_end k end || is_in_ends k ends

-- the highest number after settling
unfoldable pub top_all : List (Option ℕ) → ℕ → ℕ
top_all [] top = top
top_all (end ∷ ends) top = top_all ends (top_after end top)

-- the pair that a name of this kind has, where it is another run's
abbrev pub pair_in : ℕ → Entry → Option HeldPair
pair_in own (Held run n) = if run == own then None else Some (record { run = run; number = n })
pair_in own kind = None

abbrev pub alone : Option HeldPair → List HeldPair
alone None = []
alone (Some h) = h ∷ []

-- what stands at this place is not behind the pair
unfoldable pub is_at : List HeldPair → ℕ → HeldPair → Bool
is_at [] i h = false
is_at (k ∷ ks) zero h = not (is_before h k)
is_at (k ∷ ks) (suc i) h = is_at ks i h

-- the same pairs as the names have, in whatever order
abbrev pub IsFoundIn : ℕ → List (List ℕ) → List HeldPair → Type 0
IsFoundIn own names hs = (run n : ℕ) → has_pair run n hs ≡ has_pair run n (held_pairs own names)
