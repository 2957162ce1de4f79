-- The lines of sequences on one side of `cur`.
use Rattle.std.proofs.Common.{◌≡◌, ◌∷◌, ◌++◌, [], ℕ, Bool, true, false, List, refl, ◌∙◌, ap, append_assoc}
use Rattle.std.specs.Prelude.{map, filter, cond}
use Rattle.mh_sequences.specs.Sequences.{Sequence}
use Rattle.mark_command.specs.Lines.{is_beside_cur, line_of, lines_beside}

chosen : (before : Bool) (s : Sequence) (ss : List Sequence) → lines_beside before (s ∷ []) ++ lines_beside before ss ≡ lines_beside before (s ∷ ss)
chosen before s ss = by (is_beside_cur before s)
  where
    by : (b : Bool) → map line_of (cond b (s ∷ []) []) ++ map line_of (filter (is_beside_cur before) ss) ≡ map line_of (cond b (s ∷ filter (is_beside_cur before) ss) (filter (is_beside_cur before) ss))
    by true = refl
    by false = refl

pub one_beside : (before : Bool) (whole old now : List (List ℕ)) (s : Sequence) (ss : List Sequence) → now ≡ old ++ lines_beside before (s ∷ []) → old ++ lines_beside before (s ∷ ss) ≡ whole → now ++ lines_beside before ss ≡ whole
one_beside before whole old now s ss step was =
    ap (λ l. l ++ lines_beside before ss) step
    ∙ append_assoc old (lines_beside before (s ∷ [])) (lines_beside before ss)
    ∙ ap (λ l. old ++ l) (chosen before s ss)
    ∙ was
