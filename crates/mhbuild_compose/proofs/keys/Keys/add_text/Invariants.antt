use Rattle.std.proofs.Common.{◌≡◌, ℕ, List, length}
use Rattle.std.specs.Prelude.{◌||◌}
use Rattle.std.specs.List.{list_any}
use Rattle.mime_tree.specs.BoundaryLines.{lines}
use Rattle.mhbuild_compose.specs.KeySets.{has_digits}
use Rattle.mhbuild_compose.specs.Keys.{takes}
use Rattle.mhbuild_compose.proofs.keys.Keys.add_text.Given as goal

abbrev pub invariant-loop-rest : goal.invariant-loop-rest
invariant-loop-rest l = (d : List ℕ) → has_digits l.self d || list_any (takes l.mark d) (lines l.rest) ≡ has_digits l.initial.self d || list_any (takes l.mark d) (lines l.text)

abbrev pub decreases-loop-rest : goal.decreases-loop-rest
decreases-loop-rest l = length l.rest
