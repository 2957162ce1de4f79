-- Directories that are made together, one after another.
use Rattle.std.proofs.Common.{◌≡◌, ◌++◌, reverse, ◌||◌, ℕ, Bool, true, false, List, [], ◌∷◌, refl, sym, ◌∙◌, ap}
use Rattle.std.specs.Prelude.{if◌then◌else◌}
use Rattle.folder_files.specs.Directory.{DirectoryMap}
use Rattle.folder_files.specs.Places.{same_place, is_parent}
use Rattle.folder_files.specs.Steps.{made, with_made}
use Rattle.folder_files.specs.Worlds.{WorldMap, shown, directory_of, slot_of, shown_directory, no_directory}
use Rattle.folder_files.specs.declared.place.Place.{Place}
use Rattle.folder_files.specs.declared.step.Step.TheVariants as step
use Rattle.folder_files.specs.declared.world.Directory.{Directory}
use Rattle.folder_files.specs.declared.world.World.{World}
use Rattle.folder_room.specs.Parents.{is_among, with_all_made}
use Rattle.folder_files.proofs.Sameness.{place_same}

-- a directory that is there stays as it is
there_stays : (d : DirectoryMap) → d.there ≡ true → with_made d ≡ d
there_stays d t i = record { there = sym t i; safe = d.safe; pending = d.pending }

-- the first of the directories is there already
pub made_rest : (w v : WorldMap) (q : Place) (rest : List Place) → (w.directories q).there ≡ true → v ≡ with_all_made w rest → v ≡ with_all_made w (q ∷ rest)
made_rest w v q rest t e = e ∙ (λ i. record {
  directories = λ p. same p i;
  files = w.files;
  next_file = w.next_file;
  outside = w.outside;
  holds = w.holds;
  ended = w.ended;
})
  where
    same : (p : Place) → (if is_among rest p then with_made (w.directories p) else w.directories p) ≡ (if same_place q p || is_among rest p then with_made (w.directories p) else w.directories p)
    same p = go (same_place q p) (is_among rest p) (λ s. there_stays (w.directories p) (ap (λ x. (w.directories x).there) (sym (place_same q p s)) ∙ t))
      where
        go : (a b : Bool) → (a ≡ true → with_made (w.directories p) ≡ w.directories p) → (if b then with_made (w.directories p) else w.directories p) ≡ (if a || b then with_made (w.directories p) else w.directories p)
        go true true s = refl
        go true false s = sym (s refl)
        go false b s = refl

-- the list with one more directory, that wasn't there
pushed_directory : (ds : List Directory) (new : Directory) (p : Place) → (directory_of ds new.place).there ≡ false → shown_directory new ≡ with_made no_directory
    → directory_of (ds ++ new ∷ []) p ≡ (if same_place new.place p then with_made (directory_of ds p) else directory_of ds p)
pushed_directory [] new p f e = go (same_place new.place p)
  where
    go : (b : Bool) → (if b then shown_directory new else no_directory) ≡ (if b then with_made no_directory else no_directory)
    go true = e
    go false = refl
pushed_directory (d ∷ ds) new p f e = go (same_place d.place p) (same_place d.place new.place) (same_place new.place p) refl refl f (pushed_directory ds new p)
  where
    go : (a b c : Bool) → same_place d.place p ≡ a → same_place new.place p ≡ c → (if b then shown_directory d else directory_of ds new.place).there ≡ false
        → ((directory_of ds new.place).there ≡ false → shown_directory new ≡ with_made no_directory → directory_of (ds ++ new ∷ []) p ≡ (if same_place new.place p then with_made (directory_of ds p) else directory_of ds p))
        → (if a then shown_directory d else directory_of (ds ++ new ∷ []) p) ≡ (if c then with_made (if a then shown_directory d else directory_of ds p) else (if a then shown_directory d else directory_of ds p))
    go true b true s t u rest = refl
    go true b false s t u rest = refl
    go false true c s t u rest = absurd (cc (u))
    go false false true s t u rest = rest u e ∙ rw t refl
    go false false false s t u rest = rest u e ∙ rw t refl

-- one directory more, and then the rest
pub made_more : (w : World) (ds : List Directory) (new : Directory) (q : Place) (v : WorldMap) (rest : List Place) → ((shown w).directories q).there ≡ false → new.place ≡ q → new.safe ≡ [] → new.pending ≡ []
    → ds ≡ w.directories ++ new ∷ [] → v ≡ with_all_made (shown (record w { directories = ds })) rest → v ≡ with_all_made (shown w) (q ∷ rest)
unfolding shown
made_more w ds new q v rest f n safe pending s h = h ∙ (λ i. record {
  directories = λ p. (ap (λ xs. if is_among rest p then with_made (directory_of xs p) else directory_of xs p) s ∙ same p) i;
  files = (shown w).files;
  next_file = (shown w).next_file;
  outside = (shown w).outside;
  holds = (shown w).holds;
  ended = (shown w).ended;
})
  where
    e : shown_directory new ≡ with_made no_directory
    e i = record { there = true; safe = slot_of (safe i); pending = reverse (pending i) }

    same : (p : Place) → (if is_among rest p then with_made (directory_of (w.directories ++ new ∷ []) p) else directory_of (w.directories ++ new ∷ []) p)
        ≡ (if same_place q p || is_among rest p then with_made (directory_of w.directories p) else directory_of w.directories p)
    same p = ap (λ d. if is_among rest p then with_made d else d) (pushed_directory w.directories new p (ap (λ x. (directory_of w.directories x).there) n ∙ f) e ∙ ap (λ x. if same_place x p then with_made (directory_of w.directories p) else directory_of w.directories p) n)
        ∙ go (same_place q p) (is_among rest p)
      where
        go : (a b : Bool) → (if b then with_made (if a then with_made (directory_of w.directories p) else directory_of w.directories p) else (if a then with_made (directory_of w.directories p) else directory_of w.directories p))
            ≡ (if a || b then with_made (directory_of w.directories p) else directory_of w.directories p)
        go true true = refl
        go true false = refl
        go false true = refl
        go false false = refl

-- nothing to make
pub made_none : (w : WorldMap) → w ≡ with_all_made w []
made_none w = refl

-- the folder and those above
pub folder_made : (w : World) (v : WorldMap) (run : ℕ) (q : Place) (ps : List Place) → ((p : Place) → is_among ps p ≡ same_place q p || is_parent p q) → v ≡ with_all_made (shown w) ps → v ≡ made (shown w) run (step.MakeFolder q)
unfolding made
folder_made w v run q ps e h = h ∙ (λ i. record {
  directories = λ p. if e p i then with_made ((shown w).directories p) else (shown w).directories p;
  files = (shown w).files;
  next_file = (shown w).next_file;
  outside = (shown w).outside;
  holds = (shown w).holds;
  ended = (shown w).ended;
})
