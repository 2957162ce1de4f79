-- The name under which a draft is kept.
use Rattle.std.proofs.Common.{◌≡◌, ◌↔◌, ◌++◌, ◌∙◌, ℕ, List, [], ◌∷◌, sym, ap, codes}
use Rattle.std.proofs.lemmas.List.{append_cancel_right}
use Rattle.folder_files.specs.Named.{original_of}

pub original_iff : (old rest stem name : List ℕ) (T : Type 0) → old ≡ 44 ∷ rest → rest ≡ stem ++ codes ".orig" → T ↔ (stem ≡ name) → T ↔ (old ≡ original_of name)
original_iff old rest stem name T o r e =
    (λ t. o ∙ ap (λ x. 44 ∷ x) (r ∙ ap (λ x. x ++ codes ".orig") (e.0 t)), λ is. e.1 (append_cancel_right stem name (codes ".orig") (sym r ∙ tail (sym o ∙ is))))
  where
    tail_of : List ℕ → List ℕ
    tail_of [] = []
    tail_of (x ∷ xs) = xs

    tail : 44 ∷ rest ≡ original_of name → rest ≡ name ++ codes ".orig"
    tail p = ap tail_of p
