-- New files.
use Rattle.std.proofs.Common.{◌≡◌, ◌++◌, ◌+◌, ◌≤◌, ◌==◌, ◌&&◌, ℕ, Bool, true, false, List, [], ◌∷◌, Some, None, refl, sym, ◌∙◌, ap, arith}
use Rattle.std.proofs.lemmas.Bool.Decides.{nat_tests, Decides-eqb}
use Rattle.std.specs.Prelude.{if◌then◌else◌, is_none}
use Rattle.folder_files.specs.Directory.{DirectoryMap, now_in}
use Rattle.folder_room.specs.Positions.{changed_there, with_change, with_file, with_new}
use Rattle.folder_files.specs.Steps.{made, changed, with_created, is_created}
use Rattle.folder_files.specs.Worlds.{shown, file_of, next_of}
use Rattle.folder_files.specs.declared.place.Place.{Place}
use Rattle.folder_files.specs.declared.step.Step.TheVariants as step
use Rattle.folder_files.specs.declared.world.Change.TheVariants as change
use Rattle.folder_files.specs.declared.world.File.{File}
use Rattle.folder_files.specs.declared.world.World.{World}
use Rattle.folder_room.proofs.Renaming.{agree_at, stays_at}

-- the files up to this id are below the next
new_file : (xs : List File) (x : File) (f : ℕ) → (k : ℕ) → next_of xs ≤ k → x.id ≡ k → file_of (xs ++ x ∷ []) f ≡ (if k == f then record { bytes = x.bytes; safe = x.safe } else file_of xs f)
new_file [] x f k l e = rw e refl
new_file (y ∷ xs) x f k l e = go (y.id == f) ((Decides-eqb y.id f).0) (new_file xs x f k (omega arith) e)
  where
    go : (b : Bool) → (b ≡ true → y.id ≡ f) → file_of (xs ++ x ∷ []) f ≡ (if k == f then record { bytes = x.bytes; safe = x.safe } else file_of xs f)
        → (if b then record { bytes = y.bytes; safe = y.safe } else file_of (xs ++ x ∷ []) f) ≡ (if k == f then record { bytes = x.bytes; safe = x.safe } else (if b then record { bytes = y.bytes; safe = y.safe } else file_of xs f))
    go true q r = rw (other (q refl)) refl
      where
        other : y.id ≡ f → (k == f) ≡ false
        other q = grind (arith, nat_tests)
    go false q r = r

new_next : (xs : List File) (x : File) → x.id ≡ next_of xs → next_of (xs ++ x ∷ []) ≡ next_of xs + 1
new_next xs x e = go xs (next_of xs) (omega arith) e
  where
    go : (ys : List File) (k : ℕ) → next_of ys ≤ k → x.id ≡ k → next_of (ys ++ x ∷ []) ≡ k + 1
    go [] k l q = omega (arith, q)
    go (y ∷ ys) k l q = let rest = go ys k (omega arith) q in omega (arith, rest)

pub shown_file : (w : World) (x : File) → x.id ≡ next_of w.files → x.safe ≡ false → shown (record w { files = w.files ++ x ∷ [] }) ≡ with_file (shown w) x.bytes
unfolding shown
shown_file w x e s = λ i. record {
  directories = (shown w).directories;
  files = λ f. (new_file w.files x f (next_of w.files) (omega arith) e ∙ ap (λ v. if next_of w.files == f then record { bytes = x.bytes; safe = v } else file_of w.files f) s) i;
  next_file = new_next w.files x e i;
  outside = (shown w).outside;
  holds = (shown w).holds;
  ended = (shown w).ended;
}

is_free : (d : DirectoryMap) (n : List ℕ) → d.there ≡ true → None ≡ now_in d n → is_created d n ≡ true
is_free d n t e = (λ i. t i && is_none (now_in d n)) ∙ ap is_none (sym e)

pub create_made : (w : World) (run : ℕ) (q : Place) (n b : List ℕ) → (((shown w).directories q).there ≡ true) → None ≡ now_in ((shown w).directories q) n → with_new (shown w) q n b ≡ made (shown w) run (step.Create q n b)
unfolding made
create_made w run q n b t e = λ i. record {
  directories = λ p. agree_at (shown w).directories q p (changed_there (change.Set n (shown w).next_file)) (λ d. with_created d n (shown w).next_file) same_change i;
  files = λ f. if (sym free i) && (shown w).next_file == f then record { bytes = b; safe = false } else (shown w).files f;
  next_file = if (sym free i) then (shown w).next_file + 1 else (shown w).next_file;
  outside = (shown w).outside;
  holds = (shown w).holds;
  ended = (shown w).ended;
}
  where
    free : is_created ((shown w).directories q) n ≡ true
    free = is_free ((shown w).directories q) n t e

    same_change : changed_there (change.Set n (shown w).next_file) ((shown w).directories q) ≡ with_created ((shown w).directories q) n (shown w).next_file
    same_change =
        (λ i. if t i then changed ((shown w).directories q) (change.Set n (shown w).next_file) else (shown w).directories q)
        ∙ (λ i. if (sym free i) then changed ((shown w).directories q) (change.Set n (shown w).next_file) else (shown w).directories q)

pub create_not : (w : World) (run : ℕ) (q : Place) (n b : List ℕ) → is_created ((shown w).directories q) n ≡ false → shown w ≡ made (shown w) run (step.Create q n b)
unfolding made
create_not w run q n b e = λ i. record {
  directories = λ p. stays_at (shown w).directories q p (λ d. with_created d n (shown w).next_file) (λ j. if e j then changed ((shown w).directories q) (change.Set n (shown w).next_file) else (shown w).directories q) i;
  files = λ f. if (sym e i) && (shown w).next_file == f then record { bytes = b; safe = false } else (shown w).files f;
  next_file = if (sym e i) then (shown w).next_file + 1 else (shown w).next_file;
  outside = (shown w).outside;
  holds = (shown w).holds;
  ended = (shown w).ended;
}

pub no_directory_free : (d : DirectoryMap) (n : List ℕ) → d.there ≡ false → is_created d n ≡ false
no_directory_free d n e = λ i. e i && is_none (now_in d n)

pub taken_not_free : (d : DirectoryMap) (n : List ℕ) (f : ℕ) → Some f ≡ now_in d n → is_created d n ≡ false
taken_not_free d n f e = (λ i. d.there && is_none (sym e i)) ∙ never d.there
  where
    never : (b : Bool) → b && false ≡ false
    never true = refl
    never false = refl

-- the file is pushed, and then the name leads to it
pub new_world : (w : World) (files : List File) (q : Place) (n b : List ℕ) (id : ℕ) (name : List ℕ) → files ≡ w.files ++ record { id = id; bytes = b; safe = false } ∷ [] → id ≡ next_of w.files → name ≡ n
    → with_change (shown (record w { files = files })) q (change.Set name id) ≡ with_new (shown w) q n b
unfolding shown
new_world w files q n b id name f i e =
    (λ j. with_change (shown (record w { files = f j })) q (change.Set (e j) (i j)))
    ∙ ap (λ v. with_change v q (change.Set n (next_of w.files))) (shown_file w (record { id = id; bytes = b; safe = false }) i refl)
