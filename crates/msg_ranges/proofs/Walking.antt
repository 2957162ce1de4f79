-- Runs one after another.
use Rattle.std.proofs.Common.{◌≡◌, ℕ, zero, suc, ◌+◌, ◌-◌, ◌<◌, ◌≤◌, Some, None, List, [], ◌∷◌, length, drop, refl, sym, ◌∙◌, ap, subst, arith, add-one}
use Rattle.std.specs.Prelude.{slice_get, Option, MatchOption}
use Rattle.mh_sequences.specs.declared.run.Run.{Run}
use Rattle.mh_sequences.specs.Runs.{AreRuns, AreRunsFrom}
use Rattle.mh_sequences.proofs.Adding.{weaker}
use Rattle.msg_ranges.specs.Runs.{IsAt, IsRunAt}

few_from : (low : ℕ) (rs : List Run) → AreRunsFrom low rs → length rs ≤ 1000000 - low
few_from low [] h = omega arith
few_from low (r ∷ rs) h = let rest = few_from (r.to + 2) rs h.3 in omega arith

-- there are fewer than a million runs
pub few : (rs : List Run) → AreRuns rs → length rs < 1000000
few rs h = let le = few_from 1 rs h in omega arith

pub runs_behind : (low : ℕ) (rs : List Run) (i : ℕ) → AreRunsFrom low rs → AreRunsFrom low (drop i rs)
runs_behind low rs zero h = h
runs_behind low [] (suc i) h = tt
runs_behind low (r ∷ rs) (suc i) h = weaker low (r.to + 2) (drop i rs) (omega arith) (runs_behind (r.to + 2) rs i h.3)

there : (rs : List Run) (i : ℕ) (r : Run) → slice_get rs i ≡ Some r → drop i rs ≡ r ∷ drop (suc i) rs
there [] i r e = cc
there (x ∷ xs) zero r e = let same : x ≡ r = cc in ap (λ y. y ∷ xs) same
there (x ∷ xs) (suc i) r e = there xs i r e

inside_of : (rs : List Run) (i : ℕ) → slice_get rs i ≡ None → i < length rs → ⊥
inside_of [] i e lt = omega arith
inside_of (x ∷ xs) zero e lt = cc
inside_of (x ∷ xs) (suc i) e lt = inside_of xs i e (omega arith)

pub nothing : (rs : List Run) (i : ℕ) → length rs ≤ i → drop i rs ≡ []
nothing [] zero le = refl
nothing [] (suc i) le = refl
nothing (x ∷ xs) zero le = absurd (omega arith)
nothing (x ∷ xs) (suc i) le = nothing xs i (omega arith)

-- what stands at a place
pub at_place : (rs : List Run) (i : ℕ) (o : Option Run) → AreRuns rs → i < length rs → MatchOption o (slice_get rs i ≡ None) (λ r. slice_get rs i ≡ Some r) → IsAt rs i o
at_place rs i None h lt e = absurd (inside_of rs i e lt)
at_place rs i (Some r) h lt e =
    let head : drop i rs ≡ r ∷ drop (i + 1) rs = there rs i r e ∙ ap (λ j. r ∷ drop j rs) (sym (add-one i)) in
    let small = few rs h in
    record { head = head; valid = subst AreRuns head (runs_behind 1 rs i h); few = omega arith }

-- a place before the end
pub before_end : (rs : List Run) (i : ℕ) (r : Run) → IsRunAt rs i r → i < length rs
before_end rs i r is = by rs i (is.head ∙ ap (λ j. r ∷ drop j rs) (add-one i))
  where
    by : (rs : List Run) (i : ℕ) → {rest : List Run} → drop i rs ≡ r ∷ rest → i < length rs
    by [] zero e = cc
    by [] (suc i) e = cc
    by (x ∷ xs) zero e = omega arith
    by (x ∷ xs) (suc i) e = let more = by xs i e in omega arith
