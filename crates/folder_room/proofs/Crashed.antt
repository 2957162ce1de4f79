-- What a crash leaves, list by list.
use Rattle.std.proofs.Common.{◌≡◌, ◌++◌, ◌==◌, ◌||◌, ◌+◌, ℕ, max, Bool, true, false, List, [], ◌∷◌, map, reverse, refl, sym, ◌∙◌, ap}
use Rattle.std.specs.Prelude.{if◌then◌else◌}
use Rattle.std.proofs.lemmas.Bool.Decides.{Decides-eqb}
use Rattle.folder_files.specs.CrashImage.{IsCrashImage}
use Rattle.folder_files.specs.Directory.{DirectoryMap, kept_lead}
use Rattle.folder_files.specs.Histories.{has_acted}
use Rattle.folder_files.specs.Places.{same_place}
use Rattle.folder_files.specs.Worlds.{WorldMap, shown, shown_directory, directory_of, slot_of, no_directory, file_of, next_of, outside_of, holds_of, has_run}
use Rattle.folder_files.specs.declared.place.Place.{Place}
use Rattle.folder_files.specs.declared.event.Event.{Event}
use Rattle.folder_files.specs.declared.event.Event.TheVariants as event
use Rattle.folder_files.specs.declared.world.Directory.{Directory}
use Rattle.folder_files.specs.declared.world.File.{File}
use Rattle.folder_files.specs.declared.world.World.{World}
use Rattle.folder_room.specs.Closing.{filled_file, kept_set}
use Rattle.folder_room.specs.Crashing.{asked_at, IsCutDirectory, IsCrashBy, filled}
use Rattle.folder_room.specs.declared.script.Keep.{Keep}
use Rattle.folder_room.proofs.Closed.{least_set}
use Rattle.folder_files.proofs.Sameness.{place_same}

-- a directory that isn't there
pub nothing_cut : (asked : ℕ → Bool) → IsCutDirectory asked no_directory no_directory
nothing_cut asked = record { keep = kept_set [] asked []; least = least_set [] asked; slots = λ x. refl; there = refl; nothing_pending = refl }

-- one that is there
pub directory_cut : (asked : ℕ → Bool) (old new : Directory) → ((x : List ℕ) → slot_of new.safe x ≡ kept_lead (slot_of old.safe) (reverse old.pending) (kept_set (reverse old.pending) asked []) x) → new.pending ≡ []
    → IsCutDirectory asked (shown_directory old) (shown_directory new)
directory_cut asked old new s e = record {
  keep = kept_set (reverse old.pending) asked [];
  least = least_set (reverse old.pending) asked;
  slots = s;
  there = refl;
  nothing_pending = ap reverse e;
}

-- what is asked for one way is asked for the other
pub asked_alike : (a b : ℕ → Bool) (old new : DirectoryMap) → ((i : ℕ) → a i ≡ b i) → IsCutDirectory a old new → IsCutDirectory b old new
asked_alike a b old new e h = record {
  keep = h.keep;
  least = record {
    closed = h.least.closed;
    has = λ i l q. h.least.has i l (e i ∙ q);
    least = λ other closed has. h.least.least other closed (λ i l q. has i l (sym (e i) ∙ q));
  };
  slots = h.slots;
  there = h.there;
  nothing_pending = h.nothing_pending;
}

-- the first of the directories, and then the rest
pub more_cut : (keeps : List Keep) (old new : Directory) (olds news : List Directory) (p : Place) → new.place ≡ old.place → IsCutDirectory (asked_at keeps old.place) (shown_directory old) (shown_directory new)
    → IsCutDirectory (asked_at keeps p) (directory_of olds p) (directory_of news p) → IsCutDirectory (asked_at keeps p) (directory_of (old ∷ olds) p) (directory_of (new ∷ news) p)
more_cut keeps old new olds news p e first rest = rw e (go (same_place old.place p) (place_same old.place p))
  where
    go : (b : Bool) → (b ≡ true → old.place ≡ p) → IsCutDirectory (asked_at keeps p) (if b then shown_directory old else directory_of olds p) (if b then shown_directory new else directory_of news p)
    go true s = asked_alike (asked_at keeps old.place) (asked_at keeps p) (shown_directory old) (shown_directory new) (λ i. ap (λ q. asked_at keeps q i) (s refl)) first
    go false s = rest

files_filled : (fill : ℕ) (xs : List File) (f : ℕ) → file_of (map (filled_file fill) xs) f ≡ filled fill (file_of xs f)
files_filled fill [] f = refl
files_filled fill (x ∷ xs) f = go (x.id == f) (files_filled fill xs f)
  where
    go : (b : Bool) → file_of (map (filled_file fill) xs) f ≡ filled fill (file_of xs f)
        → (if b then record { bytes = if x.safe then x.bytes else map (λ b. fill) x.bytes; safe = true } else file_of (map (filled_file fill) xs) f) ≡ filled fill (if b then record { bytes = x.bytes; safe = x.safe } else file_of xs f)
    go true e = refl
    go false e = e

next_filled : (fill : ℕ) (xs : List File) → next_of (map (filled_file fill) xs) ≡ next_of xs
next_filled fill [] = refl
next_filled fill (x ∷ xs) = ap (max (x.id + 1)) (next_filled fill xs)

-- the whole world
pub world_crashed : (keeps : List Keep) (fill : ℕ) (acted : ℕ → Bool) (w v : World) → ((p : Place) → IsCutDirectory (asked_at keeps p) (directory_of w.directories p) (directory_of v.directories p))
    → v.files ≡ map (filled_file fill) w.files → v.drops ≡ w.drops → v.locks ≡ [] → ((r : ℕ) → has_run v.ended r ≡ acted r || has_run w.ended r) → IsCrashBy keeps fill acted (shown w) (shown v)
unfolding shown
world_crashed keeps fill acted w v ds fs os ls es = record {
  directories = ds;
  files = λ f. ap (λ xs. file_of xs f) fs ∙ files_filled fill w.files f;
  next_file = ap next_of fs ∙ next_filled fill w.files;
  outside = ap outside_of os;
  no_lock = λ p r. ap (λ l. holds_of l p r) ls;
  ended = es;
}

-- what such a crash leaves is what a crash may leave
pub image_of : (keeps : List Keep) (fill : ℕ) (acted : ℕ → Bool) (old new : WorldMap) → IsCrashBy keeps fill acted old new → IsCrashImage old new acted
image_of keeps fill acted old new c = record {
  directories = λ p. record {
    keep = (c.directories p).keep;
    closed = (c.directories p).least.closed;
    slots = (c.directories p).slots;
    there = (c.directories p).there;
    nothing_pending = (c.directories p).nothing_pending;
  };
  kept_bytes = λ f s. ap (λ x. x.bytes) (c.files f) ∙ ap (λ b. if b then (old.files f).bytes else map (λ x. fill) (old.files f).bytes) s;
  all_safe = λ f l. ap (λ x. x.safe) (c.files f);
  next_file = c.next_file;
  outside = c.outside;
  no_lock = c.no_lock;
  ended = λ r e. c.ended r ∙ e;
}

-- one run more at the end
pub run_pushed : (rs : List ℕ) (run r : ℕ) → has_run (rs ++ run ∷ []) r ≡ (run == r) || has_run rs r
run_pushed [] run r = refl
run_pushed (q ∷ rs) run r = ap (λ b. (q == r) || b) (run_pushed rs run r) ∙ turn (q == r) (run == r) (has_run rs r)
  where
    turn : (a b d : Bool) → a || (b || d) ≡ b || (a || d)
    turn true true d = refl
    turn true false d = refl
    turn false b d = refl

-- a run that is there already
pub run_there : (rs : List ℕ) (run r : ℕ) → has_run rs run ≡ true → has_run rs r ≡ (run == r) || has_run rs r
run_there rs run r h = go (run == r) ((Decides-eqb run r).0)
  where
    go : (b : Bool) → (b ≡ true → run ≡ r) → has_run rs r ≡ b || has_run rs r
    go true e = ap (has_run rs) (sym (e refl)) ∙ h
    go false e = refl

-- what an event adds to those that acted
pub acted_more : (e : Event) (past : List Event) (r : ℕ) → has_acted (e ∷ past) r ≡ has_acted (e ∷ []) r || has_acted past r
acted_more (event.Act q s a m) past r = go (q == r)
  where
    go : (b : Bool) → b || has_acted past r ≡ (b || false) || has_acted past r
    go true = refl
    go false = refl
acted_more (event.Deliver path piece) past r = refl
acted_more (event.Crash v) past r = refl
acted_more (event.End q) past r = refl
