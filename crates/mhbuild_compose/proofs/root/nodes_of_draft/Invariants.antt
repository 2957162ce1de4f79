use Rattle.std.proofs.Common.{◌≡◌, ◌++◌, drop}
use Rattle.mhbuild_compose.specs.Nodes.{nodes_of}
use Rattle.mhbuild_compose.specs.Roots.{root_front}
use Rattle.mhbuild_compose.proofs.root.nodes_of_draft.Given as goal

abbrev pub invariant-loop-item : goal.invariant-loop-item
invariant-loop-item l = l.nodes.list.items ++ nodes_of (drop l.item-index l.items) l.nodes.givens.now ≡ root_front l.count ++ nodes_of l.items l.fn.givens
