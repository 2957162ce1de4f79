-- The names of the folders that `refile` begins: each once, and none of them the source.
use Rattle.std.proofs.Common.{◌≡◌, ◌⊎◌, inl, inr, ◌∷◌, [], ℕ, zero, suc, Bool, true, false, List, refl, sym, ◌∙◌, ap, subst, arith}
use Rattle.std.specs.Prelude.{◌||◌, Contains, bytes_eq, if◌then◌else◌, not}
use Rattle.std.specs.List.{list_any}
use Rattle.folder_files.specs.declared.place.Place.TheVariants.{Folder}
use Rattle.folder_files.proofs.Names.{bytes_self}
use Rattle.refile_plans.specs.Refile.{each_once, names_source, names_without, targets_of}
use Rattle.refile_plans.specs.RefilePledge.{destinations_of, folders_of}
use Rattle.refile_plans.specs.declared.job.RefileJob.{RefileJob}

-- what a list has
pub first_there : {A : Type 0} (x : A) (xs : List A) → Contains (x ∷ xs) x
first_there x xs = (0, omega arith, refl)

pub later_there : {A : Type 0} (x : A) (xs : List A) (y : A) → Contains xs y → Contains (x ∷ xs) y
later_there x xs y c = (suc c.0, (let low = c.1 in omega (arith, low)), c.2)

pub first_or_later : {A : Type 0} (x : A) (xs : List A) (y : A) → Contains (x ∷ xs) y → (x ≡ y) ⊎ Contains xs y
first_or_later x xs y (zero, low, e) = inl e
first_or_later x xs y (suc k, low, e) = inr (k, omega (arith, low), e)

pub none_there : {A : Type 0} (y : A) → Contains [] y → ⊥
none_there y c = absurd (let low = c.1 in omega (arith, low))

-- what is left of names is another of them
pub left_names : (name : List ℕ) (names : List (List ℕ)) (x : List ℕ) → Contains (names_without name names) x → Contains names x × (x ≡ name → ⊥)
left_names name [] x c = absurd (none_there x c)
left_names name (n ∷ ns) x c = go (bytes_eq n name) refl (left_names name ns x) c
  where
    later : Contains ns x × (x ≡ name → ⊥) → Contains (n ∷ ns) x × (x ≡ name → ⊥)
    later f = (later_there n ns x f.0, f.1)

    other : bytes_eq n name ≡ false → n ≡ x → x ≡ name → ⊥
    other e same is = let no : true ≡ false = sym (bytes_self name) ∙ (ap (λ z. bytes_eq z name) (sym (same ∙ is)) ∙ e) in cc (no)

    go : (b : Bool) → bytes_eq n name ≡ b → (Contains (names_without name ns) x → Contains ns x × (x ≡ name → ⊥)) → Contains (if not b then n ∷ names_without name ns else names_without name ns) x
        → Contains (n ∷ ns) x × (x ≡ name → ⊥)
    go true e rest c = later (rest c)
    go false e rest c = elim (first_or_later n (names_without name ns) x c) [
      | inl same ↦ (subst (λ z. Contains (n ∷ ns) z) same (first_there n ns), other e same)
      | inr there ↦ later (rest there)
    ]

-- each name once
abbrev pub AreApart : List (List ℕ) → Type 0
AreApart [] = Unit {0}
AreApart (n ∷ ns) = (Contains ns n → ⊥) × AreApart ns

left_apart : (name : List ℕ) (names : List (List ℕ)) → AreApart names → AreApart (names_without name names)
left_apart name [] f = tt
left_apart name (n ∷ ns) f = go (bytes_eq n name) (left_apart name ns f.1)
  where
    go : (b : Bool) → AreApart (names_without name ns) → AreApart (if not b then n ∷ names_without name ns else names_without name ns)
    go true rest = rest
    go false rest = ((λ c. f.0 (left_names name ns n c).0), rest)

once_apart : (names : List (List ℕ)) → AreApart (each_once names)
once_apart [] = tt
once_apart (n ∷ ns) = ((λ c. (left_names n (each_once ns) n c).1 refl), left_apart n (each_once ns) (once_apart ns))

pub destinations_apart : (job : RefileJob) → AreApart (destinations_of job)
destinations_apart job = left_apart job.source (targets_of job) (once_apart (job.target ∷ job.others))

pub destinations_other : (job : RefileJob) (name : List ℕ) → Contains (destinations_of job) name → name ≡ job.source → ⊥
destinations_other job name c = (left_names job.source (targets_of job) name c).1

-- where none of the names is this one, all are left
none_left_out : (name : List ℕ) (names : List (List ℕ)) → list_any (λ n. bytes_eq n name) names ≡ false → names_without name names ≡ names
none_left_out name [] e = refl
none_left_out name (n ∷ ns) e = go (bytes_eq n name) (none_left_out name ns) e
  where
    go : (b : Bool) → (list_any (λ k. bytes_eq k name) ns ≡ false → names_without name ns ≡ ns) → b || list_any (λ k. bytes_eq k name) ns ≡ false → (if not b then n ∷ names_without name ns else names_without name ns) ≡ n ∷ ns
    go true rest e = cc (e)
    go false rest e = ap (λ z. n ∷ z) (rest e)

pub all_destinations : (job : RefileJob) → names_source job ≡ false → destinations_of job ≡ targets_of job
all_destinations job e = none_left_out job.source (targets_of job) e

-- the folder of a name is among the folders of the names
pub folder_there : (path : List ℕ) (names : List (List ℕ)) (name : List ℕ) → Contains names name → Contains (folders_of path names) (Folder path name)
folder_there path [] name c = absurd (none_there name c)
folder_there path (n ∷ ns) name c = elim (first_or_later n ns name c) [
  | inl same ↦ subst (λ z. Contains (folders_of path (n ∷ ns)) (Folder path z)) same (first_there (Folder path n) (folders_of path ns))
  | inr there ↦ later_there (Folder path n) (folders_of path ns) (Folder path name) (folder_there path ns name there)
]
