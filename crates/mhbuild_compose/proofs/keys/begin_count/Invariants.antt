use Rattle.std.proofs.Common.{◌≡◌, ◌+◌, ◌≤◌, drop}
use Rattle.mhbuild_compose.specs.Keys.{begins_in}
use Rattle.mhbuild_compose.proofs.keys.begin_count.Given as goal

abbrev pub invariant-loop-node : goal.invariant-loop-node
invariant-loop-node l = record { all : l.count + begins_in (drop l.node-index l.nodes) ≡ begins_in l.nodes; few : l.count ≤ l.node-index }
