-- Lines, one behind the other.
use Rattle.std.proofs.Common.{◌≡◌, ℕ, ◌<◌, List, [], ◌∷◌, length, take, drop, sym, ◌∙◌, ap}
use Rattle.mime_tree.specs.BoundaryLines.{lines, line_len}
use Rattle.mime_tree.proofs.Lining.{lines_step, no_lines}

pub lines_are : (rest line behind : List ℕ) (len : ℕ) → 0 < length rest → len ≡ line_len rest → line ≡ take len rest → behind ≡ drop len rest → lines rest ≡ line ∷ lines behind
lines_are rest line behind len some is front back =
    lines_step rest some ∙ (λ i. take (sym is i) rest ∷ lines (drop (sym is i) rest)) ∙ (λ i. sym front i ∷ lines (sym back i))

pub lines_none : (rest : List ℕ) → rest ≡ [] → lines rest ≡ []
lines_none rest e = ap lines e ∙ no_lines
