-- Steps on names, by the change that they are.
use Rattle.std.proofs.Common.{◌≡◌, ◌≢◌, ℕ, Bool, true, false, List, [], ◌∷◌, Some, None, bytes_eq, refl, sym, ◌∙◌, ap, subst}
use Rattle.std.proofs.lemmas.Slice.Eq.{bytes_eq-Decides}
use Rattle.std.specs.Prelude.{if◌then◌else◌}
use Rattle.folder_files.specs.Directory.{DirectoryMap, now_in}
use Rattle.folder_files.specs.Places.{same_place}
use Rattle.folder_room.specs.Positions.{changed_at, changed_there, with_change, synced_there, with_sync}
use Rattle.folder_files.specs.Steps.{made, changed, changed_if, linked, with_linked, with_renamed, with_unlinked, synced}
use Rattle.folder_files.specs.Worlds.{shown, shown_directory, directory_of, no_directory}
use Rattle.folder_files.specs.declared.place.Place.{Place}
use Rattle.folder_files.specs.declared.step.Step.TheVariants as step
use Rattle.folder_files.specs.declared.world.Change.{Change}
use Rattle.folder_files.specs.declared.world.Change.TheVariants as change
use Rattle.folder_files.specs.declared.world.Directory.{Directory}
use Rattle.folder_files.specs.declared.world.World.{World}
use Rattle.folder_files.proofs.Sameness.{place_same}

-- a directory that isn't there has no name
abbrev pub Bare : DirectoryMap → Type 0
Bare d = d.there ≡ false → d ≡ no_directory

bare_of : (ds : List Directory) (p : Place) → Bare (directory_of ds p)
bare_of [] p e = refl
bare_of (d ∷ ds) p e = go (same_place d.place p) (directory_of ds p) (bare_of ds p) e
  where
    go : (b : Bool) (r : DirectoryMap) → Bare r → Bare (if b then shown_directory d else r)
    go true r h q = absurd (cc (q))
    go false r h q = h q

pub bare : (w : World) (q : Place) → Bare ((shown w).directories q)
unfolding shown
bare w q = bare_of w.directories q

-- two changes that agree on the directory at one place
pub agree_at : (ds : Place → DirectoryMap) (q p : Place) (g h : DirectoryMap → DirectoryMap) → g (ds q) ≡ h (ds q) → changed_at q g ds p ≡ (if same_place q p then h (ds p) else ds p)
agree_at ds q p g h e = go (same_place q p) refl
  where
    go : (b : Bool) → same_place q p ≡ b → (if b then g (ds p) else ds p) ≡ (if b then h (ds p) else ds p)
    go true t = subst (λ x. g (ds x) ≡ h (ds x)) (place_same q p t) e
    go false t = refl

pub stays_at : (ds : Place → DirectoryMap) (q p : Place) (h : DirectoryMap → DirectoryMap) → h (ds q) ≡ ds q → ds p ≡ (if same_place q p then h (ds p) else ds p)
stays_at ds q p h e = go (same_place q p) refl
  where
    go : (b : Bool) → same_place q p ≡ b → ds p ≡ (if b then h (ds p) else ds p)
    go true t = subst (λ x. ds x ≡ h (ds x)) (place_same q p t) (sym e)
    go false t = refl

-- a name that leads to a file stands in a directory that is there
there_by : (d : DirectoryMap) (x : List ℕ) (f : ℕ) → Bare d → now_in d x ≡ Some f → d.there ≡ true
there_by d x f n e = go d.there refl
  where
    go : (b : Bool) → d.there ≡ b → b ≡ true
    go true t = refl
    go false t = absurd (cc (subst (λ (z : DirectoryMap). now_in z x ≡ Some f) (n t) e))

changes_there : (c : Change) (d : DirectoryMap) → d.there ≡ true → changed_there c d ≡ changed d c
changes_there c d t = rw t refl

pub link_made : (w : World) (run : ℕ) (q : Place) (a b : List ℕ) (f : ℕ) → Some f ≡ now_in ((shown w).directories q) a → None ≡ now_in ((shown w).directories q) b
    → with_change (shown w) q (change.Set b f) ≡ made (shown w) run (step.Link q a b)
unfolding made
link_made w run q a b f ea eb = λ i. record {
  directories = λ p. agree_at (shown w).directories q p (changed_there (change.Set b f)) (λ d. with_linked d a b) same_change i;
  files = (shown w).files;
  next_file = (shown w).next_file;
  outside = (shown w).outside;
  holds = (shown w).holds;
  ended = (shown w).ended;
}
  where
    same_change : changed_there (change.Set b f) ((shown w).directories q) ≡ with_linked ((shown w).directories q) a b
    same_change = changes_there (change.Set b f) ((shown w).directories q) (there_by ((shown w).directories q) a f (bare w q) (sym ea)) ∙ (λ i. linked ((shown w).directories q) b (ea i) (eb i))

pub link_none : (w : World) (run : ℕ) (q : Place) (a b : List ℕ) → None ≡ now_in ((shown w).directories q) a → shown w ≡ made (shown w) run (step.Link q a b)
unfolding made
link_none w run q a b ea = λ i. record {
  directories = λ p. stays_at (shown w).directories q p (λ d. with_linked d a b) (λ j. linked ((shown w).directories q) b ((sym ea) j) (now_in ((shown w).directories q) b)) i;
  files = (shown w).files;
  next_file = (shown w).next_file;
  outside = (shown w).outside;
  holds = (shown w).holds;
  ended = (shown w).ended;
}

pub link_taken : (w : World) (run : ℕ) (q : Place) (a b : List ℕ) (f g : ℕ) → Some f ≡ now_in ((shown w).directories q) a → Some g ≡ now_in ((shown w).directories q) b → shown w ≡ made (shown w) run (step.Link q a b)
unfolding made
link_taken w run q a b f g ea eb = λ i. record {
  directories = λ p. stays_at (shown w).directories q p (λ d. with_linked d a b) (λ j. linked ((shown w).directories q) b ((sym ea) j) ((sym eb) j)) i;
  files = (shown w).files;
  next_file = (shown w).next_file;
  outside = (shown w).outside;
  holds = (shown w).holds;
  ended = (shown w).ended;
}

differ : (a b : List ℕ) → a ≢ b → bytes_eq a b ≡ false
differ a b n = go (bytes_eq a b) ((bytes_eq-Decides a b).0)
  where
    go : (c : Bool) → (c ≡ true → a ≡ b) → c ≡ false
    go true e = absurd (n (e refl))
    go false e = refl

pub rename_made : (w : World) (run : ℕ) (q : Place) (a b : List ℕ) (f : ℕ) → a ≢ b → Some f ≡ now_in ((shown w).directories q) a
    → with_change (shown w) q (change.Moved a b) ≡ made (shown w) run (step.Rename q a b)
unfolding made
rename_made w run q a b f n ea = λ i. record {
  directories = λ p. agree_at (shown w).directories q p (changed_there (change.Moved a b)) (λ d. with_renamed d a b) same_change i;
  files = (shown w).files;
  next_file = (shown w).next_file;
  outside = (shown w).outside;
  holds = (shown w).holds;
  ended = (shown w).ended;
}
  where
    same_change : changed_there (change.Moved a b) ((shown w).directories q) ≡ with_renamed ((shown w).directories q) a b
    same_change =
        changes_there (change.Moved a b) ((shown w).directories q) (there_by ((shown w).directories q) a f (bare w q) (sym ea))
        ∙ (λ i. if (sym (differ a b n)) i then (shown w).directories q else changed_if ((shown w).directories q) (change.Moved a b) (ea i))

pub rename_none : (w : World) (run : ℕ) (q : Place) (a b : List ℕ) → None ≡ now_in ((shown w).directories q) a → shown w ≡ made (shown w) run (step.Rename q a b)
unfolding made
rename_none w run q a b ea = λ i. record {
  directories = λ p. stays_at (shown w).directories q p (λ d. with_renamed d a b) same_there i;
  files = (shown w).files;
  next_file = (shown w).next_file;
  outside = (shown w).outside;
  holds = (shown w).holds;
  ended = (shown w).ended;
}
  where
    either : (c : Bool) (d : DirectoryMap) → (if c then d else d) ≡ d
    either true d = refl
    either false d = refl

    same_there : with_renamed ((shown w).directories q) a b ≡ (shown w).directories q
    same_there =
        (λ i. if bytes_eq a b then (shown w).directories q else changed_if ((shown w).directories q) (change.Moved a b) ((sym ea) i))
        ∙ either (bytes_eq a b) ((shown w).directories q)

pub rename_itself : (w : World) (run : ℕ) (q : Place) (a b : List ℕ) → a ≡ b → shown w ≡ made (shown w) run (step.Rename q a b)
unfolding made
rename_itself w run q a b e = λ i. record {
  directories = λ p. stays_at (shown w).directories q p (λ d. with_renamed d a b) (ap (λ c. if c then (shown w).directories q else changed_if ((shown w).directories q) (change.Moved a b) (now_in ((shown w).directories q) a)) ((bytes_eq-Decides a b).1 e)) i;
  files = (shown w).files;
  next_file = (shown w).next_file;
  outside = (shown w).outside;
  holds = (shown w).holds;
  ended = (shown w).ended;
}

pub unlink_made : (w : World) (run : ℕ) (q : Place) (a : List ℕ) (f : ℕ) → Some f ≡ now_in ((shown w).directories q) a → with_change (shown w) q (change.Gone a) ≡ made (shown w) run (step.Unlink q a)
unfolding made
unlink_made w run q a f ea = λ i. record {
  directories = λ p. agree_at (shown w).directories q p (changed_there (change.Gone a)) (λ d. with_unlinked d a) same_change i;
  files = (shown w).files;
  next_file = (shown w).next_file;
  outside = (shown w).outside;
  holds = (shown w).holds;
  ended = (shown w).ended;
}
  where
    same_change : changed_there (change.Gone a) ((shown w).directories q) ≡ with_unlinked ((shown w).directories q) a
    same_change =
        changes_there (change.Gone a) ((shown w).directories q) (there_by ((shown w).directories q) a f (bare w q) (sym ea)) ∙ (λ i. changed_if ((shown w).directories q) (change.Gone a) (ea i))

pub unlink_none : (w : World) (run : ℕ) (q : Place) (a : List ℕ) → None ≡ now_in ((shown w).directories q) a → shown w ≡ made (shown w) run (step.Unlink q a)
unfolding made
unlink_none w run q a ea = λ i. record {
  directories = λ p. stays_at (shown w).directories q p (λ d. with_unlinked d a) (λ j. changed_if ((shown w).directories q) (change.Gone a) ((sym ea) j)) i;
  files = (shown w).files;
  next_file = (shown w).next_file;
  outside = (shown w).outside;
  holds = (shown w).holds;
  ended = (shown w).ended;
}

pub sync_made : (w : World) (run : ℕ) (q : Place) → with_sync (shown w) q ≡ made (shown w) run (step.SyncFolder q)
unfolding made
sync_made w run q = λ i. record {
  directories = λ p. agree_at (shown w).directories q p synced_there synced (same_sync ((shown w).directories q) (bare w q)) i;
  files = (shown w).files;
  next_file = (shown w).next_file;
  outside = (shown w).outside;
  holds = (shown w).holds;
  ended = (shown w).ended;
}
  where
    by : (d : DirectoryMap) (b : Bool) → d.there ≡ b → Bare d → (if b then synced d else d) ≡ synced d
    by d true t n = refl
    by d false t n = n t ∙ sym (ap synced (n t))

    same_sync : (d : DirectoryMap) → Bare d → synced_there d ≡ synced d
    same_sync d n = by d d.there refl n
