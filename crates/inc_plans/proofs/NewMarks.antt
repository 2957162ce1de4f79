-- The marks on new messages, and the highest number of a folder.
use Rattle.std.proofs.Common.{◌≡◌, ◌≤◌, ◌+◌, ◌-◌, ◌∷◌, [], ℕ, suc, List, Some, None, length, slice_get, refl, ap, subst, arith}
use Rattle.mh_sequences.specs.declared.run.Run.{Run}
use Rattle.mh_sequences.specs.Runs.{AreRunsFrom}
use Rattle.mh_sequences.proofs.OneRun.{last_there}
use Rattle.inc_plans.specs.Inc.{top_of}

-- the last run ends at the greatest number
first_low : (low : ℕ) (r : Run) (rs : List Run) → AreRunsFrom low (r ∷ rs) → r.to ≤ top_of (r ∷ rs)
first_low low r rs f = omega arith

pub last_top : (low : ℕ) (runs : List Run) (r : Run) → AreRunsFrom low runs → slice_get runs (length runs - 1) ≡ Some r → r.to ≡ top_of runs
last_top low [] r f e = cc (e)
last_top low (s ∷ []) r f e = let same : s ≡ r = cc (e) in let to : s.to ≡ r.to = ap (λ x. x.to) same in omega (arith, to)
last_top low (s ∷ (t ∷ rs)) r f e =
    let index : suc (suc (length rs)) - 1 ≡ suc (suc (length rs) - 1) = omega arith in
    let rest : r.to ≡ top_of (t ∷ rs) = last_top (s.to + 2) (t ∷ rs) r f.3 (subst (λ n. slice_get (s ∷ (t ∷ rs)) n ≡ Some r) index e) in
    let after : s.to + 2 ≤ t.from = f.3.0 in
    let up : t.from ≤ t.to = f.3.1 in
    let most : t.to ≤ top_of (t ∷ rs) = first_low (s.to + 2) t rs f.3 in
    omega (arith, rest, after, up, most)

pub none_top : (runs : List Run) → slice_get runs (length runs - 1) ≡ None → 0 ≡ top_of runs
none_top [] e = refl
none_top (r ∷ runs) e = absurd (last_there r runs e)
