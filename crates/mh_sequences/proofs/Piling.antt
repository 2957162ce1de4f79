-- Runs in any order.
use Rattle.std.proofs.Common.{◌≡◌, ℕ, zero, suc, ◌+◌, ◌<◌, ◌≤◌, Bool, List, [], ◌∷◌, ◌++◌, length, get_or, drop, refl, sym, ◌∙◌, ap, subst, arith, add-one, drop-cons}
use Rattle.std.specs.Prelude.{◌||◌}
use Rattle.std.specs.List.{All, list_any}
use Rattle.std.specs.List.Sorted.{IsPermutation}
use Rattle.std.proofs.lemmas.List.Sorted.{list_any-IsPermutation}
use Rattle.mh_sequences.specs.declared.run.Run.{Run}
use Rattle.mh_sequences.specs.Runs.{AreRuns, AreRunsFrom, IsRun, inside, has}
use Rattle.mh_sequences.proofs.Bools.{or_group, or_swap, or_nothing}

has_any : (rs : List Run) (n : ℕ) → has rs n ≡ list_any (λ r. inside r n) rs
has_any [] n = refl
has_any (r ∷ rs) n = ap (λ b. inside r n || b) (has_any rs n)

pub reordered : (xs ys : List Run) → IsPermutation xs ys → (n : ℕ) → has ys n ≡ has xs n
reordered xs ys moved n = has_any ys n ∙ sym (list_any-IsPermutation (λ r. inside r n) xs ys moved) ∙ sym (has_any xs n)

pub has_pushed : (rs : List Run) (r : Run) (n : ℕ) → has (rs ++ r ∷ []) n ≡ inside r n || has rs n
has_pushed [] r n = refl
has_pushed (x ∷ xs) r n = ap (λ b. inside x n || b) (has_pushed xs r n) ∙ or_swap (inside x n) (inside r n) (has xs n)

runs_from : (low : ℕ) (rs : List Run) → AreRunsFrom low rs → All IsRun rs
runs_from low [] h k d lt = absurd (omega arith)
runs_from low (r ∷ rs) h zero d lt = h.1
runs_from low (r ∷ rs) h (suc k) d lt = runs_from (r.to + 2) rs h.3 k d (omega arith)

pub each_run : (rs : List Run) → AreRuns rs → All IsRun rs
each_run rs h = runs_from 1 rs h

pub run_here : (rs : List Run) (i : ℕ) (r : Run) → All IsRun rs → i < length rs → r ≡ get_or rs i r → r.from ≤ r.to
run_here rs i r all lt is = subst IsRun (sym is) (all i r lt)

-- with what is left, the runs have these numbers
pub record IsPiled (f : ℕ → Bool) (now rest : List Run) : Type 0 where
  pub same : (n : ℕ) → has now n || has rest n ≡ f n

pub piled_none : (f : ℕ → Bool) (now rest : List Run) → now ≡ [] → ((n : ℕ) → has rest n ≡ f n) → IsPiled f now rest
piled_none f now rest e is = record { same = λ n. ap (λ l. has l n || has rest n) e ∙ is n }

pub piled_more : (f : ℕ → Bool) (now next all : List Run) (i : ℕ) (r : Run) → i < length all → r ≡ get_or all i r → ((n : ℕ) → has next n ≡ inside r n || has now n) → IsPiled f now (drop i all) → IsPiled f next (drop (i + 1) all)
piled_more f now next all i r lt is put piled =
    let at : drop i all ≡ r ∷ drop (suc i) all = drop-cons all i r lt ∙ ap (λ x. x ∷ drop (suc i) all) (sym is) in
    rw (add-one i) (record {
      same = λ n.
          ap (λ b. b || has (drop (suc i) all) n) (put n)
          ∙ or_group (inside r n) (has now n) (has (drop (suc i) all) n)
          ∙ or_swap (inside r n) (has now n) (has (drop (suc i) all) n)
          ∙ ap (λ l. has now n || has l n) (sym at)
          ∙ piled.same n;
    })

pub past : (rs : List Run) (i : ℕ) → length rs ≤ i → drop i rs ≡ []
past [] zero le = refl
past [] (suc i) le = refl
past (x ∷ xs) zero le = absurd (omega arith)
past (x ∷ xs) (suc i) le = past xs i (omega arith)

pub piled_all : (f : ℕ → Bool) (now all : List Run) (i : ℕ) → length all ≤ i → IsPiled f now (drop i all) → (n : ℕ) → has now n ≡ f n
piled_all f now all i le piled n = sym (ap (λ l. has now n || has l n) (past all i le) ∙ or_nothing (has now n)) ∙ piled.same n
