-- What a start has: nothing is pending, all files are safe, and each name leads to a file below the next.
use Rattle.std.proofs.Common.{◌≡◌, ℕ, ◌<◌, Bool, true, false, ◌==◌, inl, inr, List, [], ◌∷◌, reverse, Some, refl, ap, arith, bytes_eq, if◌then◌else◌}
use Rattle.folder_files.specs.Places.{same_place}
use Rattle.folder_files.specs.Worlds.{FileState, IsStart, AreDirectories, AreFiles, AreSlots, has_id, shown, shown_directory, directory_of, slot_of, file_of, next_of}
use Rattle.folder_files.specs.declared.place.Place.{Place}
use Rattle.folder_files.specs.declared.world.Directory.{Directory}
use Rattle.folder_files.specs.declared.world.File.{File}
use Rattle.folder_files.specs.declared.world.Slot.{Slot}
use Rattle.folder_files.specs.declared.world.World.{World}
use Rattle.folder_files.proofs.Names.{num_same, or_case}

nothing_in : (files : List File) (ds : List Directory) (p : Place) → AreDirectories files ds → (directory_of ds p).pending ≡ []
nothing_in files [] p a = refl
nothing_in files (d ∷ ds) p a = go (same_place d.place p) (nothing_in files ds p a.3)
  where
    go : (v : Bool) → (directory_of ds p).pending ≡ [] → (if v then shown_directory d else directory_of ds p).pending ≡ []
    go true rest = ap (λ cs. reverse cs) a.1
    go false rest = rest

pub nothing_pending : (start : World) → IsStart start → (p : Place) → ((shown start).directories p).pending ≡ []
unfolding shown
nothing_pending start st p = nothing_in start.files start.directories p st.directories

safe_in : (xs : List File) (f : ℕ) → AreFiles xs → (file_of xs f).safe ≡ true
safe_in [] f a = refl
safe_in (x ∷ xs) f a = go (x.id == f) (safe_in xs f a.2)
  where
    here : FileState
    here = record { bytes = x.bytes; safe = x.safe }

    go : (v : Bool) → (file_of xs f).safe ≡ true → (if v then here else file_of xs f).safe ≡ true
    go true rest = a.1
    go false rest = rest

pub all_safe : (start : World) → IsStart start → (f : ℕ) → ((shown start).files f).safe ≡ true
unfolding shown
all_safe start st f = safe_in start.files f st.files

below_next : (xs : List File) (f : ℕ) → has_id f xs ≡ true → f < next_of xs
below_next [] f h = absurd (cc (h))
below_next (x ∷ xs) f h = elim (or_case (x.id == f) (has_id f xs) h) [
  | inl e ↦ (let z : x.id ≡ f = num_same x.id f e in omega arith)
  | inr e ↦ (let z : f < next_of xs = below_next xs f e in omega arith)
]

slots_below : (files : List File) (ss : List Slot) (x : List ℕ) (f : ℕ) → AreSlots files ss → slot_of ss x ≡ Some f → f < next_of files
slots_below files [] x f a e = absurd (cc (e))
slots_below files (s ∷ ss) x f a e = go (bytes_eq s.name x) e (λ k. slots_below files ss x f a.2 k)
  where
    here : s.file ≡ f → f < next_of files
    here k = below_next files f (rw k at a.1)

    go : (v : Bool) → (if v then Some s.file else slot_of ss x) ≡ Some f → (slot_of ss x ≡ Some f → f < next_of files) → f < next_of files
    go true k rest = here (cc (k))
    go false k rest = rest k

known_in : (files : List File) (ds : List Directory) (p : Place) (x : List ℕ) (f : ℕ) → AreDirectories files ds → (directory_of ds p).safe x ≡ Some f → f < next_of files
known_in files [] p x f a e = absurd (cc (e))
known_in files (d ∷ ds) p x f a e = go (same_place d.place p) e (λ k. known_in files ds p x f a.3 k)
  where
    go : (v : Bool) → (if v then shown_directory d else directory_of ds p).safe x ≡ Some f → ((directory_of ds p).safe x ≡ Some f → f < next_of files) → f < next_of files
    go true k rest = slots_below files d.safe x f a.2 k
    go false k rest = rest k

pub all_known : (start : World) → IsStart start → (p : Place) (x : List ℕ) (f : ℕ) → ((shown start).directories p).safe x ≡ Some f → f < (shown start).next_file
unfolding shown
all_known start st p x f e = known_in start.files start.directories p x f st.directories e
