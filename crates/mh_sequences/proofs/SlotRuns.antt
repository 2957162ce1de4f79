-- Runs in slots of which the first are unused.
use Rattle.std.proofs.Common.{◌≡◌, ℕ, zero, suc, ◌+◌, ◌-◌, ◌<◌, ◌≤◌, List, [], ◌∷◌, ◌++◌, length, take, drop, refl, sym, ◌∙◌, ap, arith}
use Rattle.std.specs.Prelude.{slice_set}
use Rattle.std.specs.List.{copy_within}
use Rattle.mh_sequences.specs.declared.run.Run.{Run}

from_first : (at : ℕ) (x : Run) (xs : List Run) (run : Run) → at ≤ length xs → slice_set (take at xs ++ drop at (x ∷ xs)) at run ≡ take at xs ++ (run ∷ drop at xs)
from_first zero x [] run h = refl
from_first zero x (y ∷ ys) run h = refl
from_first (suc k) x [] run h = absurd (omega arith)
from_first (suc k) x (y ∷ ys) run h = ap (λ l. y ∷ l) (from_first k y ys run (omega arith))

-- the first runs one slot to the front, and a run behind them
fronted : (k at p : ℕ) (xs : List Run) (run : Run) → p ≡ k + at → p < length xs → drop k (slice_set ((take k xs ++ take at (drop (suc k) xs)) ++ drop p xs) p run) ≡ take at (drop (suc k) xs) ++ (run ∷ drop at (drop (suc k) xs))
fronted zero at p [] run e h = absurd (omega arith)
fronted zero at p (x ∷ xs) run e h = let same : p ≡ at = omega (arith, e) in rw same (from_first at x xs run (omega (arith, h, same)))
fronted (suc k) at zero xs run e h = absurd (omega (arith, e))
fronted (suc k) at (suc p) [] run e h = absurd (omega arith)
fronted (suc k) at (suc p) (x ∷ xs) run e h = fronted k at p xs run (omega (arith, e)) (omega (arith, h))

pub put_ahead : (s k at n p : ℕ) (xs ys : List Run) (run : Run) → s ≡ suc k → n ≡ at → p ≡ k + at → p < length xs → ys ≡ copy_within xs s (s + n) k → s + n - s ≡ n → drop k (slice_set ys p run) ≡ take at (drop s xs) ++ (run ∷ drop at (drop s xs))
put_ahead s k at n p xs ys run is same place lt made size =
    let count : s + n - s ≡ at = size ∙ same in
    let end : k + (s + n - s) ≡ p = omega arith in
    ap (λ l. drop k (slice_set l p run)) made
    ∙ (λ i. drop k (slice_set ((take k xs ++ take (count i) (drop (is i) xs)) ++ drop (end i) xs) p run))
    ∙ fronted k at p xs run place lt
    ∙ (λ i. take at (drop (sym is i) xs) ++ (run ∷ drop at (drop (sym is i) xs)))

-- a run put behind the first ones
pub put_after : (s at p : ℕ) (xs : List Run) (run : Run) → p ≡ s + at → s ≤ length xs → drop s (take p xs ++ (run ∷ drop p xs)) ≡ take at (drop s xs) ++ (run ∷ drop at (drop s xs))
put_after zero at p xs run e h = let same : p ≡ at = omega (arith, e) in ap (λ k. take k xs ++ (run ∷ drop k xs)) same
put_after (suc s) at p [] run e h = absurd (omega arith)
put_after (suc s) at zero (x ∷ xs) run e h = absurd (omega (arith, e))
put_after (suc s) at (suc p) (x ∷ xs) run e h = put_after s at p xs run (omega (arith, e)) (omega (arith, h))

-- the runs from one place up to another cut out
pub cut_after : (s from to p q : ℕ) (xs : List Run) → p ≡ s + from → q ≡ s + to → s ≤ length xs → drop s (take p xs ++ drop q xs) ≡ take from (drop s xs) ++ drop to (drop s xs)
cut_after zero from to p q xs e f h = let first : p ≡ from = omega (arith, e) in let last : q ≡ to = omega (arith, f) in λ i. take (first i) xs ++ drop (last i) xs
cut_after (suc s) from to p q [] e f h = absurd (omega arith)
cut_after (suc s) from to zero q (x ∷ xs) e f h = absurd (omega (arith, e))
cut_after (suc s) from to (suc p) zero (x ∷ xs) e f h = absurd (omega (arith, f))
cut_after (suc s) from to (suc p) (suc q) (x ∷ xs) e f h = cut_after s from to p q xs (omega (arith, e)) (omega (arith, f)) (omega (arith, h))
