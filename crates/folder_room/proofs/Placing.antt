-- Directories by their places.
use Rattle.std.proofs.Common.{◌≡◌, ◌≢◌, ◌+◌, ◌<◌, ◌≤◌, ℕ, zero, suc, Bool, true, false, List, [], ◌∷◌, length, get_or, set, refl, sym, ◌∙◌, subst, arith, add-one}
use Rattle.std.specs.Prelude.{if◌then◌else◌}
use Rattle.folder_files.specs.Directory.{DirectoryMap}
use Rattle.folder_files.specs.Places.{same_place}
use Rattle.folder_room.specs.Positions.{Skips, IsOf, changed_at}
use Rattle.folder_files.specs.Worlds.{shown, shown_directory, directory_of, no_directory}
use Rattle.folder_files.specs.declared.world.World.{World}
use Rattle.folder_files.specs.declared.place.Place.{Place}
use Rattle.folder_files.specs.declared.world.Directory.{Directory}
use Rattle.folder_files.proofs.Sameness.{place_same, place_is}

pub place_apart : (p q : Place) → p ≢ q → same_place p q ≡ false
place_apart p q n = go (same_place p q) (place_same p q)
  where
    go : (b : Bool) → (b ≡ true → p ≡ q) → b ≡ false
    go true e = absurd (n (e refl))
    go false e = refl

skips_suc : (ds : List Directory) (i : ℕ) (p : Place) (d0 : Directory) → i < length ds → (get_or ds i d0).place ≢ p → Skips ds i p → Skips ds (suc i) p
skips_suc [] i p d0 l n s = tt
skips_suc (d ∷ []) zero p d0 l n s = (n, tt)
skips_suc (d ∷ (e ∷ ds)) zero p d0 l n s = (n, tt)
skips_suc (d ∷ ds) (suc i) p d0 l n s = (s.0, skips_suc ds i p d0 (omega arith) n s.1)

pub skips_more : (ds : List Directory) (i : ℕ) (p : Place) (d0 : Directory) → i < length ds → (get_or ds i d0).place ≢ p → Skips ds i p → Skips ds (i + 1) p
skips_more ds i p d0 l n s = rw add-one (skips_suc ds i p d0 l n s)

pub skips_none : (ds : List Directory) (p : Place) → Skips ds 0 p
skips_none [] p = tt
skips_none (d ∷ ds) p = tt

pub skips_all : (ds : List Directory) (i : ℕ) (p : Place) → length ds ≤ i → Skips ds i p → Skips ds (length ds) p
skips_all [] i p l s = tt
skips_all (d ∷ ds) zero p l s = absurd (omega arith)
skips_all (d ∷ ds) (suc i) p l s = (s.0, skips_all ds i p (omega arith) s.1)

pub is_of : (ds : List Directory) (i : ℕ) (p : Place) (d0 : Directory) → i < length ds → (get_or ds i d0).place ≡ p → IsOf ds i p
is_of [] i p d0 l e = absurd (omega arith)
is_of (d ∷ ds) zero p d0 l e = e
is_of (d ∷ ds) (suc i) p d0 l e = is_of ds i p d0 (omega arith) e

pub place_of : (ds : List Directory) (i : ℕ) (p : Place) (d0 : Directory) → IsOf ds i p → (get_or ds i d0).place ≡ p
place_of [] i p d0 is = absurd is
place_of (d ∷ ds) zero p d0 is = is
place_of (d ∷ ds) (suc i) p d0 is = place_of ds i p d0 is

-- after a change of the directory of this place
pub directories_set : (ds : List Directory) (i : ℕ) (q p : Place) (d0 new : Directory) (change : DirectoryMap → DirectoryMap) → Skips ds i q → IsOf ds i q → new.place ≡ q
    → shown_directory new ≡ change (shown_directory (get_or ds i d0)) → directory_of (set ds i new) p ≡ changed_at q change (directory_of ds) p
directories_set [] i q p d0 new change s is e h = absurd is
directories_set (d ∷ ds) zero q p d0 new change s is e h = rw (e, is) (go (same_place q p))
  where
    go : (v : Bool) → (if v then shown_directory new else directory_of ds p) ≡ (if v then change (if v then shown_directory d else directory_of ds p) else (if v then shown_directory d else directory_of ds p))
    go true = h
    go false = refl
directories_set (d ∷ ds) (suc i) q p d0 new change s is e h = go (same_place d.place p) (same_place q p) refl refl (directories_set ds i q p d0 new change s.1 is e h)
  where
    go : (v u : Bool) → same_place d.place p ≡ v → same_place q p ≡ u → directory_of (set ds i new) p ≡ (if same_place q p then change (directory_of ds p) else directory_of ds p)
        → (if v then shown_directory d else directory_of (set ds i new) p) ≡ (if u then change (if v then shown_directory d else directory_of ds p) else (if v then shown_directory d else directory_of ds p))
    go true true a b rest = absurd (s.0 (place_same d.place p a ∙ sym (place_same q p b)))
    go true false a b rest = refl
    go false true a b rest = rw b at rest
    go false false a b rest = rw b at rest

-- there is none
pub directories_none : (ds : List Directory) (p : Place) → Skips ds (length ds) p → directory_of ds p ≡ no_directory
directories_none [] p s = refl
directories_none (d ∷ ds) p s = rw (place_apart d.place p s.0) (directories_none ds p s.1)

-- there is one
pub directories_found : (ds : List Directory) (i : ℕ) (p : Place) (d0 : Directory) → Skips ds i p → IsOf ds i p → directory_of ds p ≡ shown_directory (get_or ds i d0)
directories_found [] i p d0 s is = absurd is
directories_found (d ∷ ds) zero p d0 s is = rw (is, place_is p) refl
directories_found (d ∷ ds) (suc i) p d0 s is = rw (place_apart d.place p s.0) (directories_found ds i p d0 s.1 is)

pub there_found : (ds : List Directory) (i : ℕ) (p : Place) → Skips ds i p → IsOf ds i p → (directory_of ds p).there ≡ true
there_found [] i p s is = absurd is
there_found (d ∷ ds) zero p s is = rw (is, place_is p) refl
there_found (d ∷ ds) (suc i) p s is = rw (place_apart d.place p s.0) (there_found ds i p s.1 is)

-- the maps of a world whose directory at one index is another
pub shown_set : (w : World) (i : ℕ) (q : Place) (d0 new : Directory) (change : DirectoryMap → DirectoryMap) → Skips w.directories i q → IsOf w.directories i q → new.place ≡ q
    → shown_directory new ≡ change (shown_directory (get_or w.directories i d0)) → shown (record w { directories = set w.directories i new }) ≡ record (shown w) { directories = changed_at q change (shown w).directories }
unfolding shown
shown_set w i q d0 new change s is e h = λ j. record {
  directories = λ p. directories_set w.directories i q p d0 new change s is e h j;
  files = (shown w).files;
  next_file = (shown w).next_file;
  outside = (shown w).outside;
  holds = (shown w).holds;
  ended = (shown w).ended;
}

-- where it isn't there, nothing changes
pub shown_same : (w : World) (q : Place) (change : DirectoryMap → DirectoryMap) → Skips w.directories (length w.directories) q → change no_directory ≡ no_directory
    → shown w ≡ record (shown w) { directories = changed_at q change (shown w).directories }
unfolding shown
shown_same w q change s n = λ j. record {
  directories = λ p. same_at p j;
  files = (shown w).files;
  next_file = (shown w).next_file;
  outside = (shown w).outside;
  holds = (shown w).holds;
  ended = (shown w).ended;
}
  where
    same_at : (p : Place) → directory_of w.directories p ≡ (if same_place q p then change (directory_of w.directories p) else directory_of w.directories p)
    same_at p = go (same_place q p) refl
      where
        go : (b : Bool) → same_place q p ≡ b → directory_of w.directories p ≡ (if b then change (directory_of w.directories p) else directory_of w.directories p)
        go true e = let none_there : directory_of w.directories p ≡ no_directory = subst (λ x. directory_of w.directories x ≡ no_directory) (place_same q p e) (directories_none w.directories q s) in rw none_there (sym n)
        go false e = refl
