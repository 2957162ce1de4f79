-- The numbers of a run, one after another.
use Rattle.std.proofs.Common.{◌≡◌, ℕ, zero, suc, ◌+◌, ◌-◌, ◌≤◌, List, [], ◌∷◌, ◌++◌, Option, Some, None, length, drop, refl, sym, ◌∙◌, ap, arith, append_assoc, append-nil, add-one}
use Rattle.std.specs.Prelude.{slice_get}
use Rattle.std.proofs.lemmas.List.{drop_all}
use Rattle.mh_sequences.specs.declared.run.Run.{Run}
use Rattle.mh_sequences.specs.Runs.{numbers_of}
use Rattle.command_stages.specs.RunNumbers.{AreRunNumbers}
use Rattle.std.specs.List.{range_with_len}

pub range_more : (from k : ℕ) → range_with_len from (suc k) ≡ range_with_len from k ++ (from + k) ∷ []
range_more from zero = let e : from ≡ from + 0 = omega arith in ap (λ n. n ∷ []) e
range_more from (suc k) =
    let e : from + 1 + k ≡ from + suc k = omega arith in
    ap (λ l. from ∷ l) (range_more (from + 1) k ∙ ap (λ n. range_with_len (from + 1) k ++ n ∷ []) e)

-- one number more
pub one_counted : (old : List ℕ) (from n : ℕ) (now : List ℕ) → from ≤ n → now ≡ old ++ range_with_len from (n - from) → now ++ n ∷ [] ≡ old ++ range_with_len from (n + 1 - from)
one_counted old from n now le is =
    let k : n + 1 - from ≡ suc (n - from) = omega (arith, le) in
    let e : from + (n - from) ≡ n = omega (arith, le) in
    ap (λ l. l ++ n ∷ []) is ∙ append_assoc old (range_with_len from (n - from)) (n ∷ [])
    ∙ ap (λ l. old ++ l) (ap (λ m. range_with_len from (n - from) ++ m ∷ []) (sym e) ∙ sym (range_more from (n - from)) ∙ ap (range_with_len from) (sym k))

-- one run more of a set
at_run : (runs : List Run) (i : ℕ) (r : Run) → slice_get runs i ≡ Some r → drop i runs ≡ r ∷ drop (suc i) runs
at_run [] i r e = cc
at_run (x ∷ runs) zero r e = let same : x ≡ r = cc in ap (λ z. z ∷ runs) same
at_run (x ∷ runs) (suc i) r e = at_run runs i r e

none_at : (runs : List Run) (i : ℕ) → slice_get runs i ≡ None → (drop i runs ≡ []) × (drop (suc i) runs ≡ [])
none_at [] zero e = (refl, refl)
none_at [] (suc i) e = (refl, refl)
none_at (x ∷ runs) zero e = cc
none_at (x ∷ runs) (suc i) e = none_at runs i e

one_run : (runs : List Run) (i : ℕ) (r : Run) (old new : List ℕ) → slice_get runs i ≡ Some r → new ≡ old ++ range_with_len r.from (r.to + 1 - r.from) → old ++ numbers_of (drop i runs) ≡ numbers_of runs → new ++ numbers_of (drop (i + 1) runs) ≡ numbers_of runs
one_run runs i r old new at put left =
    ap (λ l. l ++ numbers_of (drop (i + 1) runs)) put ∙ append_assoc old (range_with_len r.from (r.to + 1 - r.from)) (numbers_of (drop (i + 1) runs))
    ∙ ap (λ k. old ++ (range_with_len r.from (r.to + 1 - r.from) ++ numbers_of (drop k runs))) (add-one i) ∙ ap (λ l. old ++ numbers_of l) (sym (at_run runs i r at)) ∙ left

no_run : (runs : List Run) (i : ℕ) (old : List ℕ) → slice_get runs i ≡ None → old ++ numbers_of (drop i runs) ≡ numbers_of runs → old ++ numbers_of (drop (i + 1) runs) ≡ numbers_of runs
no_run runs i old at left = let e = none_at runs i at in ap (λ k. old ++ numbers_of (drop k runs)) (add-one i) ∙ ap (λ l. old ++ numbers_of l) (e.1 ∙ sym e.0) ∙ left

pub all_runs : (runs : List Run) (i : ℕ) (list : List ℕ) → length runs ≤ i → list ++ numbers_of (drop i runs) ≡ numbers_of runs → list ≡ numbers_of runs
all_runs runs i list le left = sym (append-nil list) ∙ ap (λ l. list ++ numbers_of l) (sym (drop_all i runs le)) ∙ left

pub next_run : (runs : List Run) (i : ℕ) (old new : List ℕ) → AreRunNumbers (slice_get runs i) old new → old ++ numbers_of (drop i runs) ≡ numbers_of runs → new ++ numbers_of (drop (i + 1) runs) ≡ numbers_of runs
next_run runs i old new put left = go (slice_get runs i) refl put
  where
    go : (o : Option Run) → slice_get runs i ≡ o → AreRunNumbers o old new → new ++ numbers_of (drop (i + 1) runs) ≡ numbers_of runs
    go None at put = ap (λ l. l ++ numbers_of (drop (i + 1) runs)) put ∙ no_run runs i old at left
    go (Some r) at put = one_run runs i r old new at put left
