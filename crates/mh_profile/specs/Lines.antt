-- The lines of a text, each with the lines that continue it.
use Rattle.std.specs.Prelude.{ℕ, ◌==◌, ◌&&◌, not, List, [], ◌∷◌, if◌then◌else◌}
use Rattle.std.specs.List.{onto_first}
use Rattle.mail_headers.specs.Lines.{continues}

-- the text cut behind each line feed that no blank follows
unfoldable pub folded_lines : List ℕ → List (List ℕ)
folded_lines [] = []
folded_lines (b ∷ bs) =
    if b == 10 && not (continues bs) then (b ∷ []) ∷ folded_lines bs else onto_first b (folded_lines bs)
