use Rattle.std.proofs.Common.{◌≡◌, drop}
use Rattle.std.specs.List.{flat_map}
use Rattle.sort_words.specs.Keys.{key_in, key_of}
use Rattle.sort_words.proofs.keys.key.Given as goal
use Rattle.command_words.specs.Switches.{last_behind}

abbrev pub invariant-loop-item : goal.invariant-loop-item
invariant-loop-item l = last_behind l.key (flat_map key_in (drop l.item-index l.item-items)) ≡ key_of l.item-items
