use Rattle.mhbuild_compose.specs.Keys.{takes_any}
use Rattle.mhbuild_compose.proofs.Keying.{Chosen}
use Rattle.mhbuild_compose.proofs.keys.choose_keys.Given as goal

abbrev pub invariant-loop-i : goal.invariant-loop-i
invariant-loop-i l = Chosen (takes_any l.run l.nodes) l.from l.count l.i l.keys.items
