use Rattle.std.proofs.Common.{◌≡◌, ◌+◌, ◌≤◌, drop}
use Rattle.mhbuild_compose.specs.Roots.{tops}
use Rattle.mhbuild_compose.proofs.root.tops.Given as goal

abbrev pub invariant-loop-item : goal.invariant-loop-item
invariant-loop-item l = record { all : l.count + tops l.depth (drop l.item-index l.items) ≡ tops 0 l.items; few : l.count ≤ l.item-index; shallow : l.depth ≤ l.item-index }
