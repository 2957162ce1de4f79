-- Files made safe.
use Rattle.std.proofs.Common.{◌≡◌, ◌<◌, ◌==◌, ℕ, Bool, true, false, List, [], length, get_or, set, Some, None, refl, sym, ◌∙◌, ap, subst}
use Rattle.std.proofs.lemmas.Bool.Decides.{Decides-eqb}
use Rattle.std.specs.Prelude.{if◌then◌else◌}
use Rattle.folder_files.specs.Directory.{now_in}
use Rattle.folder_room.specs.Positions.{SkipsBy, IsAtBy}
use Rattle.folder_files.specs.Steps.{made, is_led}
use Rattle.folder_files.specs.Worlds.{FileState, shown, file_of}
use Rattle.folder_files.specs.declared.place.Place.{Place}
use Rattle.folder_files.specs.declared.step.Step.TheVariants as step
use Rattle.folder_files.specs.declared.world.File.{File}
use Rattle.folder_files.specs.declared.world.World.{World}
use Rattle.folder_room.proofs.Keyed.{file_found, file_set, next_set, id_found, file_lacking}

-- the file with its bytes, and safe
abbrev pub safe_file : FileState → FileState
safe_file s = record { bytes = s.bytes; safe = true }

pub sync_none : (w : World) (run : ℕ) (q : Place) (n : List ℕ) → None ≡ now_in ((shown w).directories q) n → shown w ≡ made (shown w) run (step.SyncFile q n)
unfolding made
sync_none w run q n e = λ i. record {
  directories = (shown w).directories;
  files = λ f. if is_led (e i) f then safe_file ((shown w).files f) else (shown w).files f;
  next_file = (shown w).next_file;
  outside = (shown w).outside;
  holds = (shown w).holds;
  ended = (shown w).ended;
}

same_by : (id f : ℕ) (a b : FileState) → (id ≡ f → a ≡ b) → (c : FileState) → (if id == f then a else c) ≡ (if id == f then b else c)
same_by id f a b h c = go (id == f) ((Decides-eqb id f).0)
  where
    go : (v : Bool) → (v ≡ true → id ≡ f) → (if v then a else c) ≡ (if v then b else c)
    go true e = h (e refl)
    go false e = refl

pub sync_one : (w : World) (run : ℕ) (q : Place) (n : List ℕ) (id i : ℕ) (d : File) → Some id ≡ now_in ((shown w).directories q) n → i < length w.files → SkipsBy (λ x. x.id == id) w.files i → IsAtBy (λ x. x.id == id) w.files i
    → d ≡ get_or w.files i d → shown (record w { files = set w.files i (record { id = d.id; bytes = d.bytes; safe = true }) }) ≡ made (shown w) run (step.SyncFile q n)
unfolding made shown
sync_one w run q n id i d e l s is same = λ j. record {
  directories = (shown w).directories;
  files = λ f. (each f) j;
  next_file = next_set w.files i new d l (ap (λ (x : File). x.id) same) j;
  outside = (shown w).outside;
  holds = (shown w).holds;
  ended = (shown w).ended;
}
  where
    new : File
    new = record { id = d.id; bytes = d.bytes; safe = true }

    own_id : d.id ≡ id
    own_id = ap (λ (x : File). x.id) same ∙ id_found w.files i id d is

    found : file_of w.files id ≡ record { bytes = (get_or w.files i d).bytes; safe = (get_or w.files i d).safe }
    found = file_found w.files i id d s is

    each : (f : ℕ) → file_of (set w.files i new) f ≡ (if is_led (now_in ((shown w).directories q) n) f then safe_file (file_of w.files f) else file_of w.files f)
    each f =
        file_set w.files i id f new s is own_id
        ∙ same_by id f (record { bytes = d.bytes; safe = true }) (safe_file (file_of w.files f))
        (λ g. ap (λ (x : File). safe_file (record { bytes = x.bytes; safe = x.safe })) same ∙ ap safe_file (sym found) ∙ ap (λ k. safe_file (file_of w.files k)) g) (file_of w.files f)
        ∙ (λ k. if is_led (e k) f then safe_file (file_of w.files f) else file_of w.files f)

pub sync_lost : (w : World) (run : ℕ) (q : Place) (n : List ℕ) (id : ℕ) → Some id ≡ now_in ((shown w).directories q) n → SkipsBy (λ x. x.id == id) w.files (length w.files) → shown w ≡ made (shown w) run (step.SyncFile q n)
unfolding made shown
sync_lost w run q n id e s = λ j. record {
  directories = (shown w).directories;
  files = λ f. (each f) j;
  next_file = (shown w).next_file;
  outside = (shown w).outside;
  holds = (shown w).holds;
  ended = (shown w).ended;
}
  where
    lacking : file_of w.files id ≡ record { bytes = []; safe = true }
    lacking = file_lacking w.files id s

    keeps : (f : ℕ) → file_of w.files f ≡ (if id == f then safe_file (file_of w.files f) else file_of w.files f)
    keeps f = go (id == f) ((Decides-eqb id f).0)
      where
        go : (v : Bool) → (v ≡ true → id ≡ f) → file_of w.files f ≡ (if v then safe_file (file_of w.files f) else file_of w.files f)
        go true g = subst (λ k. file_of w.files k ≡ safe_file (file_of w.files k)) (g refl) (lacking ∙ ap safe_file (sym lacking))
        go false g = refl

    each : (f : ℕ) → file_of w.files f ≡ (if is_led (now_in ((shown w).directories q) n) f then safe_file (file_of w.files f) else file_of w.files f)
    each f = keeps f ∙ (λ k. if is_led (e k) f then safe_file (file_of w.files f) else file_of w.files f)
