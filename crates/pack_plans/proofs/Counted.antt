-- The numbers from 1 on, one after another.
use Rattle.std.proofs.Common.{◌≡◌, ◌+◌, ℕ, List, [], ◌∷◌, ◌++◌, ap, sym, ◌∙◌, arith, suc}
use Rattle.std.specs.List.{range_with_len}
use Rattle.command_stages.proofs.Counting.{range_more}

-- one more
pub one_placed : (k n : ℕ) (old new : List ℕ) → n ≡ k + 1 → new ≡ old ++ n ∷ [] → old ≡ range_with_len 1 k → new ≡ range_with_len 1 (k + 1)
one_placed k n old new is put was =
    let e : n ≡ 1 + k = is ∙ omega arith in
    let s : k + 1 ≡ suc k = omega arith in
    put ∙ (λ i. was i ++ e i ∷ []) ∙ sym (range_more 1 k) ∙ ap (range_with_len 1) (sym s)
