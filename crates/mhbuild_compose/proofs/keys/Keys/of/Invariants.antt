use Rattle.std.proofs.Common.{◌≡◌, ℕ, List, drop}
use Rattle.std.specs.Prelude.{◌||◌}
use Rattle.std.specs.List.{list_any}
use Rattle.mhbuild_compose.specs.KeySets.{has_digits}
use Rattle.mhbuild_compose.specs.Keys.{node_takes}
use Rattle.mhbuild_compose.proofs.keys.Keys.of.Given as goal

abbrev pub invariant-loop-node : goal.invariant-loop-node
invariant-loop-node l = (d : List ℕ) → has_digits l.keys d || list_any (node_takes l.mark d) (drop l.node-index l.nodes) ≡ list_any (node_takes l.mark d) l.nodes
