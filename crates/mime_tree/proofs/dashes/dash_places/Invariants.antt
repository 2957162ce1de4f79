use Rattle.std.proofs.Common.{◌≡◌, ◌+◌, ◌++◌, List, ℕ, length}
use Rattle.mime_tree.specs.BoundaryLines.{lines}
use Rattle.mime_tree.specs.DashLines.{IsPlain, Marks}
use Rattle.mime_tree.proofs.dashes.dash_places.Given as goal

abbrev pub invariant-loop-rest : goal.invariant-loop-rest
invariant-loop-rest l =
    (l.place + length l.rest ≡ length l.bytes)
    × ((more : List ℕ) → Marks IsPlain l.place (lines l.rest) more → Marks IsPlain 0 (lines l.bytes) (l.marks.items ++ more))

abbrev pub decreases-loop-rest : goal.decreases-loop-rest
decreases-loop-rest l = length l.rest
