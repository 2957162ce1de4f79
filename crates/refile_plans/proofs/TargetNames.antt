-- The names of the folders that messages go to: each once, and none of them the source's.
use Rattle.std.proofs.Common.{◌≡◌, ◌∷◌, [], ℕ, Bool, true, false, List, refl, bytes_eq}
use Rattle.std.specs.Prelude.{not, if◌then◌else◌}
use Rattle.std.specs.List.{list_any}
use Rattle.folder_files.proofs.Names.{bytes_self, not_both, or_false}
use Rattle.refile_plans.specs.Refile.{each_once, names_source, names_without, targets_of}
use Rattle.refile_plans.specs.declared.job.RefileJob.{RefileJob}
use Rattle.refile_plans.proofs.Distinct.{AreDistinct, IsAny, NotAmong}

-- texts that are told apart are different
differs : (x name : List ℕ) → bytes_eq x name ≡ false → x ≡ name → ⊥
differs x name e same = not_both (bytes_eq x name) (subst_self x name same) e
  where
    subst_self : (a b : List ℕ) → a ≡ b → bytes_eq a b ≡ true
    subst_self a b f = rw f (bytes_self b)

-- the name itself is left out
pub none_without : (name : List ℕ) (names : List (List ℕ)) → NotAmong name (names_without name names)
none_without name [] = tt
none_without name (x ∷ names) = go (bytes_eq x name) refl (none_without name names)
  where
    go : (b : Bool) → bytes_eq x name ≡ b → NotAmong name (names_without name names) → NotAmong name (if not b then x ∷ names_without name names else names_without name names)
    go true e f = f
    go false e f = (differs x name e, f)

-- what is left out leaves the others as they are
fewer_without : (name other : List ℕ) (names : List (List ℕ)) → NotAmong name names → NotAmong name (names_without other names)
fewer_without name other [] f = tt
fewer_without name other (x ∷ names) f = go (bytes_eq x other) (fewer_without name other names f.1)
  where
    go : (b : Bool) → NotAmong name (names_without other names) → NotAmong name (if not b then x ∷ names_without other names else names_without other names)
    go true g = g
    go false g = (f.0, g)

-- each stands there once still
distinct_without : (other : List ℕ) (names : List (List ℕ)) → AreDistinct names → AreDistinct (names_without other names)
distinct_without other [] f = tt
distinct_without other (x ∷ names) f = go (bytes_eq x other) (distinct_without other names f.1)
  where
    go : (b : Bool) → AreDistinct (names_without other names) → AreDistinct (if not b then x ∷ names_without other names else names_without other names)
    go true g = g
    go false g = (fewer_without x other names f.0, g)

-- each of them once
distinct_once : (names : List (List ℕ)) → AreDistinct (each_once names)
distinct_once [] = tt
distinct_once (x ∷ names) = (none_without x (each_once names), distinct_without x (each_once names) (distinct_once names))

-- so the names do that are begun after the source
pub targets_distinct : (job : RefileJob) → AreDistinct (names_without job.source (targets_of job))
targets_distinct job = distinct_without job.source (targets_of job) (distinct_once (job.target ∷ job.others))

-- where none is the source, there is one at least
pub targets_any : (job : RefileJob) → names_source job ≡ false → IsAny (names_without job.source (targets_of job)) []
targets_any job none = go (bytes_eq job.target job.source) (or_false (bytes_eq job.target job.source) (list_any (λ name. bytes_eq name job.source) rest) none).0
  where
    rest : List (List ℕ)
    rest = names_without job.target (each_once job.others)

    go : (b : Bool) → b ≡ false → IsAny (if not b then job.target ∷ names_without job.source rest else names_without job.source rest) []
    go true e = cc (e)
    go false e = tt
